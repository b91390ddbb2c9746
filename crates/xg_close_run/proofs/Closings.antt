-- How a search on an accepted game ends.
use Rattle.std.proofs.Common.{ℕ, ◌*◌, ◌≤◌, List, Option, Result, Ok, Err, Bool, true, false, refl, sym, subst}
use Rattle.std.specs.Prelude.{◌↔◌, IsTrue}
use Rattle.def_outside.specs.Calls.{SinkCall, Wrote, WroteFront}
use Rattle.def_outside.specs.Cause.{HasCause}
use Rattle.def_outside.specs.Sinks.{Writes}
use Rattle.def_sums.specs.Limits.{most_root}
use Rattle.def_fraction.specs.Fraction.{Fraction}
use Rattle.def_file.specs.Content.{GameFile}
use Rattle.def_game_numbers.specs.Weighed.{weighed_game}
use Rattle.def_program.specs.Text.{form_of_file}
use Rattle.def_close.specs.Narrow.{AreAsNarrow}
use Rattle.def_close.specs.Plans.{pair_high, pair_low, pair_text}
use Rattle.xg_search.specs.declared.search.Search.{Search}
use Rattle.xg_search.specs.Searches.{IsSearchOf, high_of, low_of, lower_of, upper_of}
use Rattle.xg_close_run.specs.Brackets.{IsNarrowEnough, IsTooWide}
use Rattle.xg_close_run.specs.Endings.{Closes, HasPairText}
use Rattle.xg_load.specs.Endings.{IsEndingOf}
use Rattle.xg_close_run.specs.Widths.{IsWidth}
use Rattle.xg_load.specs.declared.ending.Ending.{Ending}
use Rattle.xg_close_run.proofs.Found.{kept_narrow, plans_kept}

not_true : IsTrue false → ⊥
not_true h = absurd cc

module _ (asked : Option Fraction) (game : GameFile) (width : Fraction) (search : Search)
    (is : IsSearchOf (form_of_file game) search) (asks : IsWidth asked game width)
    (some : 1 ≤ (weighed_game game).unit * most_root) where
  abbrev text : List ℕ
  text = pair_text game (lower_of search).plan (upper_of search).plan

  abbrev IsClosed : Type 0
  IsClosed = AreAsNarrow width ((weighed_game game).unit * most_root) (low_of search) (high_of search)

  -- the text of what is kept, of which this is so
  has_text : (IsSo : List ℕ → Fraction → Fraction → Type 0)
      → IsSo text (pair_low game (lower_of search).plan (upper_of search).plan) (pair_high game (lower_of search).plan (upper_of search).plan)
      → HasPairText game IsSo
  has_text IsSo so = record {
    one = (lower_of search).plan;
    two = (upper_of search).plan;
    plans = plans_kept (form_of_file game) search is;
    so = so;
  }

  -- the end by whether the text was written, and whether the bracket is as narrow as asked
  pub closes_of : {T E : Type 0} (out : SinkCall) (r : Result T E) (is_narrow : Bool) (ending : Ending)
      → (IsTrue is_narrow ↔ IsClosed) → IsEndingOf r ending → Writes out.before out.now text r
      → HasCause out.faults.before out.faults.now r → Closes asked game out is_narrow ending
  closes_of out (Ok x) true ending narrow ends writes cause =
      let kept = kept_narrow (form_of_file game) (weighed_game game).unit search is width some in
      subst (λ (e : Ending). Closes asked game out true e) (sym ends) (
        cause,
        has_text (λ text low high. Wrote out text × IsNarrowEnough asked game low high)
            (writes, record { width = width; asks = asks; narrow = kept.1 (narrow.0 refl) }),
      )
  closes_of out (Ok x) false ending narrow ends writes cause =
      let kept = kept_narrow (form_of_file game) (weighed_game game).unit search is width some in
      subst (λ (e : Ending). Closes asked game out false e) (sym ends) (
        cause,
        has_text (λ text low high. Wrote out text × IsTooWide asked game low high)
            (writes, record { width = width; asks = asks; wide = λ h. not_true (narrow.1 (kept.0 h)) }),
      )
  closes_of out (Err x) is_narrow ending narrow ends writes cause =
      subst (λ (e : Ending). Closes asked game out is_narrow e) (sym ends)
      (cause, has_text (λ text low high. WroteFront out text) writes)
