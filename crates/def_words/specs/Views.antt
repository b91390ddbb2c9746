-- What the seats of the table know.
use Rattle.std.specs.Prelude.{ℕ, List, []}
use Rattle.def_words.specs.declared.view.View.{View}
use Rattle.def_words.specs.declared.view.View.TheVariants.{Owner, Worker, Spent}

-- the numbers that were claimed, a worker's last one first
abbrev pub numbers_of : View → List ℕ
numbers_of (Owner numbers made unjoined) = numbers
numbers_of (Worker numbers reached) = numbers
numbers_of Spent = []

-- a worker's last number has its amounts added at the rows below this one
abbrev pub reached_of : View → ℕ
reached_of (Owner numbers made unjoined) = 0
reached_of (Worker numbers reached) = reached
reached_of Spent = 0

-- how many workers the owner ever made, and how many of these it has not joined yet
abbrev pub made_of : View → ℕ
made_of (Owner numbers made unjoined) = made
made_of (Worker numbers reached) = 0
made_of Spent = 0

abbrev pub unjoined_of : View → ℕ
unjoined_of (Owner numbers made unjoined) = unjoined
unjoined_of (Worker numbers reached) = 0
unjoined_of Spent = 0

-- 1 for the owner's view, and 1 for a worker's
abbrev pub owner_count : View → ℕ
owner_count (Owner numbers made unjoined) = 1
owner_count (Worker numbers reached) = 0
owner_count Spent = 0

abbrev pub worker_count : View → ℕ
worker_count (Owner numbers made unjoined) = 0
worker_count (Worker numbers reached) = 1
worker_count Spent = 0

-- the owner's view at the start, and a worker's
abbrev pub first_view : View
first_view = Owner [] 0 0

abbrev pub new_worker : View
new_worker = Worker [] 0

abbrev pub spent_view : View
spent_view = Spent
