-- What is written of what rounds left, and of what became of the files of a batch.
--     left_text variant form left     the text of what rounds of a variant left
--     items_shown number items        what is written of items, counted from this number
--     parts_bytes number parts        the bytes of parts that are ready to be written
use Rattle.std.specs.Prelude.{◌≡◌, ℕ, ◌+◌, List, [], ◌∷◌, ◌++◌, Option, Some, None, IsSomeAnd, string_bytes}
use Rattle.def_plan.specs.Form.{SequenceForm}
use Rattle.def_reply.specs.Outcome.{Outcome}
use Rattle.def_plus.specs.declared.Variant.{Variant}
use Rattle.def_plus.specs.declared.Variant.TheVariants.{Plain}
use Rattle.def_cert_accepted.specs.OfOutcome.{certificate_of}
use Rattle.def_cert_accepted.specs.Writable.{IsOutcomeOf}
use Rattle.def_cert_versions.specs.Verdict.{in_version_two}
use Rattle.def_program.specs.BatchText.{file_line}
use Rattle.def_program.specs.Text.{text_of_variant}
use Rattle.def_program.specs.TextLines.{fault_line}
use Rattle.xg_engine.specs.State.{EngineState}
use Rattle.xg_batch.specs.declared.item.Item.{Item}
use Rattle.xg_batch.specs.declared.item.Item.TheVariants.{Solved, Refused}
use Rattle.xg_batch.specs.declared.batch_text.Part.{Part}
use Rattle.xg_batch.specs.declared.batch_text.Part.TheVariants.{Game, Fault}

-- the text of what rounds of a variant left
abbrev pub left_text : Variant → SequenceForm → Outcome → List ℕ
left_text variant form left = text_of_variant variant (in_version_two (certificate_of form left))

abbrev pub left_shown : SequenceForm → Option Outcome → List ℕ
left_shown form None = []
left_shown form (Some left) = left_text Plain form left

-- a run left an outcome that can be written
abbrev pub HasOutcome : EngineState → Type 0
HasOutcome engine = IsSomeAnd engine.outcome (IsOutcomeOf engine.game.form)

abbrev pub CanBeShown : Item → Type 0
CanBeShown (Solved engine) = HasOutcome engine
CanBeShown (Refused fault) = Unit {0}

abbrev pub item_shown : Item → List ℕ
item_shown (Solved engine) = left_shown engine.game.form engine.outcome
item_shown (Refused fault) = fault_line fault

abbrev pub items_shown : ℕ → List Item → List ℕ
items_shown number [] = []
items_shown number (item ∷ items) = (file_line number ++ item_shown item) ++ items_shown (number + 1) items

-- ---- parts
abbrev pub part_bytes : Part → List ℕ
part_bytes (Game text) = left_text text.variant text.form.now text.outcome.now
part_bytes (Fault line) = string_bytes line

abbrev pub CanWritePart : Part → Type 0
CanWritePart (Game text) = IsOutcomeOf text.form.now text.outcome.now
CanWritePart (Fault line) = Unit {0}

abbrev pub parts_bytes : ℕ → List Part → List ℕ
parts_bytes number [] = []
parts_bytes number (part ∷ parts) = (file_line number ++ part_bytes part) ++ parts_bytes (number + 1) parts

-- the part is what is written of the item, and can be written
pub record IsTextPart (item : Item) (part : Part) : Type 0 where
  pub bytes : part_bytes part ≡ item_shown item
  pub writable : CanWritePart part
