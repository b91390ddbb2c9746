-- The first fault of a text, by what could stand in its place: it names no state of a reader.
--     CanGoOn f items                  the items can go on to a value's
--     HasFirstFault f total bytes fault    behind items that can go on stands what is cut short,
--                                          or goes on to no value's
--     FirstFaultOf f Fits bytes fault      the fault is the first of bytes that are to be one value's text
use Rattle.std.specs.Prelude.{◌≡◌, ◌≢◌, ℕ, ◌-◌, Bool, true, false, List, [], ◌∷◌, ◌++◌, length}
use Rattle.def_cert_text.specs.declared.fault.CertFault.{CertFault}
use Rattle.def_cert_text.specs.declared.fault.CertFault.TheVariants.{CertSyntax, CertShort, CertTrailing}
use Rattle.def_cert_text.specs.Fields.{FieldKind, TextItem, field, separator, items_text, next_field, behind_field}
use Rattle.def_cert_text.specs.Fields.{is_empty, field_fault}
use Rattle.def_cert_text.specs.Versions.{VersionedFits}
use Rattle.def_cert_text.specs.Formats.{Format, text_of}
use Rattle.def_cert_text.specs.CertText.{versioned_certificate}

-- what an item is
pub data Place : Type 0 where
  of_field : FieldKind → Place
  of_separator : Place

abbrev pub place_of_item : TextItem → Place
place_of_item (field kind bytes) = of_field kind
place_of_item (separator byte) = of_separator

abbrev pub first_byte : List ℕ → ℕ
first_byte [] = 0
first_byte (byte ∷ bytes) = byte

-- the item of a place that stands at the front of bytes
abbrev pub item_there : Place → List ℕ → TextItem
item_there (of_field kind) bytes = field kind (next_field bytes)
item_there of_separator bytes = separator (first_byte bytes)

-- it is missing, or a field that touches the end
abbrev pub is_cut_short : Place → List ℕ → Bool
is_cut_short (of_field kind) bytes = is_empty (behind_field bytes)
is_cut_short of_separator bytes = is_empty bytes

abbrev pub fault_there : Place → ℕ → CertFault
fault_there (of_field kind) at = field_fault kind at
fault_there of_separator at = CertSyntax at

-- some value that fits is made of these items and perhaps more
abbrev pub CanGoOn : {A : Type 0} → Format A → List TextItem → Type 0
CanGoOn {A = A} f items = (x : A) × (more : List TextItem) × (f.fits x ≡ true) × (f.items x ≡ items ++ more)

-- and next to them of an item of this place
abbrev pub Needs : {A : Type 0} → Format A → List TextItem → Place → Type 0
Needs f items place = (item : TextItem) × (place_of_item item ≡ place) × CanGoOn f (items ++ item ∷ [])

pub data StopsReading {A : Type 0} (f : Format A) (items : List TextItem) (place : Place) (total : ℕ) (left : List ℕ)
    (fault : CertFault) : Type 0 where
  cut_short : is_cut_short place left ≡ true → fault ≡ CertShort → StopsReading f items place total left fault
  unfit : is_cut_short place left ≡ false → (CanGoOn f (items ++ item_there place left ∷ []) → ⊥)
      → fault ≡ fault_there place (total - length left)
      → StopsReading f items place total left fault

-- The bytes end a text of so many bytes in all. The field before a separator's place is a whole one.
pub record HasFirstFault {A : Type 0} (f : Format A) (total : ℕ) (bytes : List ℕ) (fault : CertFault) : Type 0 where
  pub items : List TextItem
  pub place : Place
  pub left : List ℕ
  pub parts : bytes ≡ items_text items ++ left
  pub whole_before : place ≡ of_separator → next_field left ≡ []
  pub needed : Needs f items place
  pub stop : StopsReading f items place total left fault

-- more stands behind a whole value
pub record IsTrailing {A : Type 0} (f : Format A) (Fits : A → Type 0) (bytes : List ℕ) (fault : CertFault) : Type
    0 where
  pub value : A
  pub left : List ℕ
  pub fits : Fits value
  pub parts : bytes ≡ text_of f value ++ left
  pub more : left ≢ []
  pub fault_is : fault ≡ CertTrailing (length (text_of f value))

pub data FirstFaultOf {A : Type 0} (f : Format A) (Fits : A → Type 0) (bytes : List ℕ) (fault : CertFault) : Type
    0 where
  within : HasFirstFault f (length bytes) bytes fault → FirstFaultOf f Fits bytes fault
  behind : IsTrailing f Fits bytes fault → FirstFaultOf f Fits bytes fault

-- of bytes that are to be a certificate
abbrev pub FirstVersionedFault : List ℕ → CertFault → Type 0
FirstVersionedFault bytes fault = FirstFaultOf versioned_certificate VersionedFits bytes fault
