-- Entries that a maker of a game takes.
use Rattle.std.specs.Prelude.{◌≡◌, ◌≢◌, false, List, [], ◌∷◌, None}
use Rattle.def_tree.specs.Tree.{wanted}
use Rattle.def_file.specs.Content.{Record, Contents}
use Rattle.def_file.specs.Faults.{record_fault}
use Rattle.def_file.specs.Adding.{with_record}
use Rattle.xg_game.specs.Made.{Made}

-- the contents with some entries more
abbrev pub with_entries : Contents → List Record → Contents
with_entries contents [] = contents
with_entries contents (r ∷ rs) = with_entries (with_record contents r) rs

-- one after another, each comes where a node is wanted, and has no fault
abbrev pub AreWanted : Contents → List Record → Type 0
AreWanted contents [] = Unit {0}
AreWanted contents (r ∷ rs) = (wanted 1 contents.nodes ≢ 0) × (record_fault contents r ≡ None)
    × AreWanted (with_record contents r) rs

-- a maker takes these entries
pub record Takes (maker : Made) (rs : List Record) : Type 0 where
  pub unspent : maker.spent ≡ false
  pub wanted : AreWanted maker.contents rs

-- and has them besides
pub record GainsEntries (before now : Made) (rs : List Record) : Type 0 where
  pub same : now ≡ record before { contents = with_entries before.contents rs }
