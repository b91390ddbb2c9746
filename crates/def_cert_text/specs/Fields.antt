-- The fields of a text: what stands between spaces and line feeds, which separate them.
use Rattle.std.specs.Prelude.{ℕ, ◌-◌, Bool, true, false, ◌==◌, ◌||◌, not, List, [], ◌∷◌, ◌++◌, length, take, drop}
use Rattle.std.specs.Prelude.{Option, Some, None, Result, Ok, Err, if◌then◌else◌}
use Rattle.std.specs.List.{prefix_len}
use Rattle.def_cert_text.specs.declared.fault.CertFault.{CertFault}
use Rattle.def_cert_text.specs.declared.fault.CertFault.TheVariants.{CertSyntax, CertNumber, CertVersion, CertShort}

infixl 10 ◌>>=◌
-- one reading after another, up to the first fault
abbrev pub ◌>>=◌ : {A B : Type 0} → Result A CertFault → (A → Result B CertFault) → Result B CertFault
(Ok x) >>= f = f x
(Err fault) >>= f = Err fault

abbrev pub space : ℕ
space = 32

abbrev pub feed : ℕ
feed = 10

-- ---- what a text is made of
pub data FieldKind : Type 0 where
  fixed_word : FieldKind
  number : FieldKind
  version : FieldKind

pub data TextItem : Type 0 where
  field : FieldKind → List ℕ → TextItem
  separator : ℕ → TextItem

abbrev pub item_bytes : TextItem → List ℕ
item_bytes (field kind bytes) = bytes
item_bytes (separator byte) = byte ∷ []

unfoldable pub items_text : List TextItem → List ℕ
items_text [] = []
items_text (item ∷ items) = item_bytes item ++ items_text items

-- ---- how it is taken apart
abbrev pub is_field_byte : ℕ → Bool
is_field_byte byte = not (byte == space || byte == feed)

-- the longest run of bytes at the front that don't separate, and what is behind it
abbrev pub next_field : List ℕ → List ℕ
next_field bytes = take (prefix_len is_field_byte bytes) bytes

abbrev pub behind_field : List ℕ → List ℕ
behind_field bytes = drop (prefix_len is_field_byte bytes) bytes

abbrev pub is_empty : List ℕ → Bool
is_empty [] = true
is_empty (byte ∷ bytes) = false

-- the fault of a field that isn't what is needed at this place
abbrev pub field_fault : FieldKind → ℕ → CertFault
field_fault fixed_word at = CertSyntax at
field_fault number at = CertNumber at
field_fault version at = CertVersion

-- What is left is told apart from the length of the whole, so that a place counts from the front.

-- a value, and what is left behind the separator, if it is this one
abbrev pub separated_by : {A : Type 0} → ℕ → ℕ → A → List ℕ → Result (A × List ℕ) CertFault
separated_by sep total x [] = Err CertShort
separated_by sep total x (byte ∷ left) = if byte == sep then Ok (x, left) else Err
    (CertSyntax (total - length (byte ∷ left)))

abbrev pub if_fit : {A : Type 0} → CertFault → ℕ → ℕ → Option A → List ℕ → Result (A × List ℕ) CertFault
if_fit unfit sep total None left = Err unfit
if_fit unfit sep total (Some x) left = separated_by sep total x left

-- a field that a test takes, and its separator; a field that touches the end is short, whatever it holds
unfoldable pub read_field : {A : Type 0} → FieldKind → (List ℕ → Option A) → ℕ → ℕ → List ℕ
    → Result (A × List ℕ) CertFault
read_field kind test sep total bytes =
    if is_empty (behind_field bytes) then Err CertShort
    else if_fit (field_fault kind (total - length bytes)) sep total (test (next_field bytes)) (behind_field bytes)
