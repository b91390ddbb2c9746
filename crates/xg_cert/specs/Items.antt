-- Lines as data, and the items of a text that they are.
use Rattle.std.specs.Prelude.{ℕ, List, [], ◌∷◌}
use Rattle.std.specs.Fmt.{decimal, signed_decimal}
use Rattle.def_fraction.specs.Text.{fraction_text}
use Rattle.def_cert_text.specs.Fields.{space, FieldKind, fixed_word, number, TextItem, field, separator}
use Rattle.xg_cert.specs.declared.items.Item.{Item}
use Rattle.xg_cert.specs.declared.items.Item.TheVariants.{Word, Whole, Signed, Fraction}

abbrev pub field_kind : Item → FieldKind
field_kind (Word word) = fixed_word
field_kind (Whole n sep) = number
field_kind (Signed n sep) = number
field_kind (Fraction f sep) = number

abbrev pub field_bytes : Item → List ℕ
field_bytes (Word word) = word.now
field_bytes (Whole n sep) = decimal n
field_bytes (Signed n sep) = signed_decimal n
field_bytes (Fraction f sep) = fraction_text f

abbrev pub separator_of : Item → ℕ
separator_of (Word word) = space
separator_of (Whole n sep) = sep
separator_of (Signed n sep) = sep
separator_of (Fraction f sep) = sep

abbrev pub items_of : List Item → List TextItem
items_of [] = []
items_of (item ∷ items) = field (field_kind item) (field_bytes item) ∷ separator (separator_of item) ∷ items_of items
