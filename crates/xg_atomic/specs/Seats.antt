-- What seats of the table know, and what each step makes of it.
use Rattle.std.specs.Prelude.{◌≡◌, ℕ, ◌+◌, ◌-◌, [], ◌∷◌, ◌++◌}
use Rattle.atomic_table.specs.Table.{Me}
use Rattle.def_words.specs.declared.view.View.{View}
use Rattle.def_words.specs.declared.view.View.TheVariants.{Owner, Worker}
use Rattle.def_words.specs.Views.{numbers_of, reached_of, made_of, unjoined_of}

-- a seat with an owner's view, and with a worker's: no seat has slots
abbrev pub IsOwner : Me (Unit {0}) View → Type 0
IsOwner me = me ≡ (Owner (numbers_of me.0) (made_of me.0) (unjoined_of me.0), [])

abbrev pub IsWorker : Me (Unit {0}) View → Type 0
IsWorker me = me ≡ (Worker (numbers_of me.0) (reached_of me.0), [])

-- a worker's view with one more number claimed
abbrev pub claimed : ℕ → View → View
claimed n v = Worker (n ∷ numbers_of v) 0

-- a worker's view with the amount at a row added
abbrev pub with_row : ℕ → View → View
with_row row v = Worker (numbers_of v) (row + 1)

-- the owner's view with one more worker made
abbrev pub with_worker : View → View
with_worker v = Owner (numbers_of v) (made_of v + 1) (unjoined_of v + 1)

-- the owner's view with a worker's joined in
abbrev pub joined_views : View → View → View
joined_views v w = Owner (numbers_of w ++ numbers_of v) (made_of v) (unjoined_of v - 1)
