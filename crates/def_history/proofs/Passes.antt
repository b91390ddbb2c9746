-- What a pass makes of each job, and when it changes nothing.
use Rattle.std.proofs.Common.{◌≡◌, ◌≢◌, ℕ, zero, suc, ◌+◌, ◌<◌, ◌≤◌, Bool, true, false, cond, ◌&&◌, List, [], ◌∷◌, ◌++◌, length, get_or, take, refl, ap, sym}
use Rattle.std.proofs.Common.{subst, ◌∙◌, arith, inl, inr, ◌⊎◌, append-nil, length-append}
use Rattle.std.specs.List.{flat_map}
use Rattle.std.specs.Prelude.{nat_le, All}
use Rattle.std.proofs.lemmas.List.Elements.{All-nil, All-cons, All-head, All-tail}
use Rattle.std.proofs.lemmas.Grind.{flat_map-append}
use Rattle.std.proofs.lemmas.Bool.{and_parts, cases_lt, leb-false, lt-leb, le-leb}
use Rattle.def_tree.specs.Tree.{Forest, bare, grown, prefix}
use Rattle.def_history.specs.Jobs.{each_tree, subtrees, is_chance_job, is_cut, count_after, cut_each, pass, passes, jobs_then, IsPass, JobsComeOfPasses}
use Rattle.def_history.specs.Jobs.{NoRoomToCut, CutsUntilNoRoom}
use Rattle.def_history.proofs.Cuts.{within_if_cut}

-- one pass more is a pass over what the passes before it leave
pub passes-suc : (limit n : ℕ) (jobs : List Forest) → passes limit (suc n) jobs ≡ pass limit (passes limit n jobs)
passes-suc limit zero jobs = refl
passes-suc limit (suc n) jobs = passes-suc limit n (pass limit jobs)

-- the jobs of a tree are what 64 passes within 4,096 jobs make of the whole tree
pub jobs_come_of_passes : JobsComeOfPasses
jobs_come_of_passes = record { none_at_first = λ limit tree. refl; one_more = λ limit n tree. passes-suc limit n (tree ∷ []); all = λ tree. refl }

-- what becomes of each job
abbrev parts_of : ℕ → ℕ → List Forest → List (List Forest)
parts_of limit count [] = []
parts_of limit count (job ∷ rest) = cond (is_cut limit count job) (subtrees job ∷ parts_of limit (count_after count job) rest)
    ((job ∷ []) ∷ parts_of limit count rest)

abbrev together : List (List Forest) → List Forest
together parts = flat_map (λ part. part) parts

-- a job becomes a part, where so many jobs stand before all of these
record Becomes (limit done : ℕ) (jobs : List Forest) (parts : List (List Forest)) (place : ℕ) (job : Forest) (part : List Forest) : Type 0 where
  cut : is_chance_job job ≡ true → done + jobs_then jobs parts place job ≤ limit → part ≡ subtrees job
  kept : (is_chance_job job ≡ true → limit < done + jobs_then jobs parts place job) → part ≡ job ∷ []

module _ (limit : ℕ) where
  parts_joined : (count : ℕ) (jobs : List Forest) → cut_each limit count jobs ≡ together (parts_of limit count jobs)
  parts_joined count [] = refl
  parts_joined count (job ∷ rest) =
      elim (is_cut limit count job) as (λ b. cond b (subtrees job ++ cut_each limit (count_after count job) rest) (job ∷ cut_each limit count rest)
      ≡ together (cond b (subtrees job ∷ parts_of limit (count_after count job) rest) ((job ∷ []) ∷ parts_of limit count rest))) [
        | true ↦ ap (λ xs. subtrees job ++ xs) (parts_joined (count_after count job) rest)
        | false ↦ ap (λ xs. job ∷ xs) (parts_joined count rest)
      ]

  parts_counted : (count : ℕ) (jobs : List Forest) → length (parts_of limit count jobs) ≡ length jobs
  parts_counted count [] = refl
  parts_counted count (job ∷ rest) =
      elim (is_cut limit count job) as (λ b. length (cond b (subtrees job ∷ parts_of limit (count_after count job) rest)
      ((job ∷ []) ∷ parts_of limit count rest)) ≡ suc (length rest)) [
        | true ↦ ap suc (parts_counted (count_after count job) rest)
        | false ↦ ap suc (parts_counted count rest)
      ]

  -- the first of the jobs
  becomes_first : (done count : ℕ) (job : Forest) (rest : List Forest) → count ≡ done + suc (length rest) → (b : Bool)
      → is_cut limit count job ≡ b → (parts : List (List Forest)) (part : List Forest) →
      part ≡ cond b (subtrees job) (job ∷ []) → Becomes limit done (job ∷ rest) (part ∷ parts) 0 job part
  becomes_first done count job rest many true is parts part e = record {
    cut = λ chance room. e;
    kept = λ no_room.
        let both = and_parts (is_chance_job job) (nat_le (count_after count job) limit) is in
        let over : limit < done + jobs_then (job ∷ rest) (part ∷ parts) 0 job = no_room both.0 in
        let within : count_after count job ≤ limit = within_if_cut limit count job is in
        absurd (omega arith);
  }
  becomes_first done count job rest many false is parts part e = record {
    cut = λ chance room.
        let yes : is_cut limit count job ≡ true = (λ i. chance i && le-leb (count_after count job) limit (omega arith) i) in
        let no : true ≡ false = sym yes ∙ is in
        absurd (cc no);
    kept = λ no_room. e;
  }

  -- one of the later jobs, behind what came of the first
  becomes_later : (done : ℕ) (job : Forest) (rest : List Forest) (part : List Forest) (parts : List (List Forest))
      (place : ℕ) (later : Forest) (later_part : List Forest)
      →
      Becomes limit (done + length part) rest parts place later later_part → Becomes limit done (job ∷ rest) (part ∷ parts) (suc place) later later_part
  becomes_later done job rest part parts place later later_part h =
      let many : length (part ++ together (take place parts)) ≡ length part
      + length (together (take place parts)) = length-append part (together (take place parts)) in
      let same : done + length part + jobs_then rest parts place later ≡ done + jobs_then (job ∷ rest) (part ∷ parts) (suc place) later = omega arith in
      record {
        cut = λ chance room. h.cut chance (subst (λ n. n ≤ limit) (sym same) room);
        kept = λ no_room. h.kept (λ chance. subst (λ n. limit < n) (sym same) (no_room chance));
      }

  becomes : (done count : ℕ) (jobs : List Forest) → count ≡ done + length jobs → (place : ℕ) (none : Forest)
      → place < length jobs →
      Becomes limit done jobs (parts_of limit count jobs) place (get_or jobs place none) (get_or (parts_of limit count jobs) place [])
  becomes done count [] many place none there = absurd (omega arith)
  becomes done count (job ∷ rest) many zero none there =
      elim (is_cut limit count job) as (λ b. is_cut limit count job ≡ b →
      Becomes limit done (job ∷ rest) (cond b (subtrees job ∷ parts_of limit (count_after count job) rest) ((job ∷ []) ∷ parts_of limit count rest)) 0 job
      (get_or (cond b (subtrees job ∷ parts_of limit (count_after count job) rest) ((job ∷ []) ∷ parts_of limit count rest)) 0 [])) [
        | true ↦ λ is. becomes_first done count job rest many true is (parts_of limit (count_after count job) rest) (subtrees job) refl
        | false ↦ λ is. becomes_first done count job rest many false is (parts_of limit count rest) (job ∷ []) refl
      ] refl
  becomes done count (job ∷ rest) many (suc place) none there =
      elim (is_cut limit count job) as (λ b.
      Becomes limit done (job ∷ rest) (cond b (subtrees job ∷ parts_of limit (count_after count job) rest) ((job ∷ []) ∷ parts_of limit count rest)) (suc place)
      (get_or rest place none)
      (get_or (cond b (subtrees job ∷ parts_of limit (count_after count job) rest) ((job ∷ []) ∷ parts_of limit count rest)) (suc place) [])) [
        | true ↦
            let parts : List (List Forest) = parts_of limit (count_after count job) rest in
            becomes_later done job rest (subtrees job) parts place (get_or rest place none) (get_or parts place [])
            (becomes (done + length (subtrees job)) (count_after count job) rest (omega arith) place none (omega arith))
        | false ↦
            let parts : List (List Forest) = parts_of limit count rest in
            becomes_later done job rest (job ∷ []) parts place (get_or rest place none) (get_or parts place [])
            (becomes (done + 1) count rest (omega arith) place none (omega arith))
      ]

  pub pass_parts : (jobs : List Forest) → (parts : List (List Forest)) × IsPass limit jobs (pass limit jobs) parts
  pass_parts jobs = (
    parts_of limit (length jobs) jobs,
    record {
      count = parts_counted (length jobs) jobs;
      joined = parts_joined (length jobs) jobs;
      each = λ place none there.
          let h = becomes 0 (length jobs) jobs (omega arith) place none there in
          let parts : List (List Forest) = parts_of limit (length jobs) jobs in
          let same : 0 + jobs_then jobs parts place (get_or jobs place none) ≡ jobs_then jobs parts place (get_or jobs place none) = omega arith in
          record {
            cut = λ chance room. h.cut chance (subst (λ n. n ≤ limit) (sym same) room);
            kept = λ no_room. h.kept (λ chance. subst (λ n. limit < n) (sym same) (no_room chance));
          };
    },
  )

  -- A cut takes a node away, so a pass that changes nothing cuts nothing.

  abbrev nodes_of : List Forest → ℕ
  nodes_of jobs = length (flat_map prefix jobs)

  nodes-append : (xs ys : List Forest) → nodes_of (xs ++ ys) ≡ nodes_of xs + nodes_of ys
  nodes-append xs ys = ap length (flat_map-append prefix xs ys) ∙ length-append (flat_map prefix xs) (flat_map prefix ys)

  nodes-each_tree : (trees : Forest) → nodes_of (each_tree trees) ≡ length (prefix trees)
  nodes-each_tree bare = refl
  nodes-each_tree (grown node below beside) =
      let here : length (prefix below ++ []) ≡ length (prefix below) = ap length (append-nil (prefix below)) in
      omega (
        arith,
        nodes-each_tree beside,
        length-append (prefix below) (prefix beside),
        length-append (node ∷ (prefix below ++ [])) (flat_map prefix (each_tree beside)),
      )

  fewer_nodes : (job : Forest) → is_chance_job job ≡ true → nodes_of (subtrees job) < length (prefix job)
  fewer_nodes bare chance = cc
  fewer_nodes (grown node below beside) chance = omega (arith, nodes-each_tree below, length-append (prefix below) (prefix beside))

  no_more_nodes : (count : ℕ) (jobs : List Forest) → nodes_of (cut_each limit count jobs) ≤ nodes_of jobs
  no_more_nodes count [] = omega arith
  no_more_nodes count (job ∷ rest) =
      elim (is_cut limit count job) as (λ b. is_cut limit count job ≡ b → nodes_of
      (cond b (subtrees job ++ cut_each limit (count_after count job) rest) (job ∷ cut_each limit count rest)) ≤ nodes_of (job ∷ rest)) [
        | true ↦ λ is.
            let chance = and_parts (is_chance_job job) (nat_le (count_after count job) limit) is in
            omega (
              arith,
              fewer_nodes job chance.0,
              no_more_nodes (count_after count job) rest,
              nodes-append (subtrees job) (cut_each limit (count_after count job) rest),
              length-append (prefix job) (flat_map prefix rest),
            )
        | false ↦ λ is. omega (
          arith,
          no_more_nodes count rest,
          length-append (prefix job) (flat_map prefix rest),
          length-append (prefix job) (flat_map prefix (cut_each limit count rest)),
        )
      ] refl

  abbrev Stays : ℕ → Forest → Type 0
  Stays count job = is_cut limit count job ≡ false

  same_tail : (job : Forest) (xs ys : List Forest) → job ∷ xs ≡ job ∷ ys → xs ≡ ys
  same_tail job xs ys e = cc

  stays_or_changes : (count : ℕ) (jobs : List Forest) → All (Stays count) jobs ⊎ (cut_each limit count jobs ≢ jobs)
  stays_or_changes count [] = inl (All-nil (Stays count))
  stays_or_changes count (job ∷ rest) =
      elim (is_cut limit count job) as (λ b. is_cut limit count job ≡ b →
      All (Stays count) (job ∷ rest) ⊎ (cond b (subtrees job ++ cut_each limit (count_after count job) rest) (job ∷ cut_each limit count rest) ≢ job ∷ rest)) [
        | true ↦ λ is. inr (λ e.
            let chance = and_parts (is_chance_job job) (nat_le (count_after count job) limit) is in
            let less : nodes_of (subtrees job) < length (prefix job) = fewer_nodes job chance.0 in
            let rest_less : nodes_of (cut_each limit (count_after count job) rest) ≤ nodes_of rest = no_more_nodes (count_after count job) rest in
            let cut : nodes_of (subtrees job ++ cut_each limit (count_after count job) rest) ≡ nodes_of (subtrees job)
            + nodes_of (cut_each limit (count_after count job) rest) = nodes-append (subtrees job) (cut_each limit (count_after count job) rest) in
            let whole : nodes_of (job ∷ rest) ≡ length (prefix job) + nodes_of rest = length-append (prefix job) (flat_map prefix rest) in
            let same : nodes_of (subtrees job ++ cut_each limit (count_after count job) rest) ≡ nodes_of (job ∷ rest) = ap nodes_of e in
            absurd (omega arith))
        | false ↦ λ is. elim (stays_or_changes count rest) [
          | inl stay ↦ inl (All-cons (Stays count) job rest is stay)
          | inr changes ↦ inr (λ e. changes (same_tail job (cut_each limit count rest) rest e))
        ]
      ] refl

  unchanged : (count : ℕ) (jobs : List Forest) → All (Stays count) jobs → cut_each limit count jobs ≡ jobs
  unchanged count [] stay = refl
  unchanged count (job ∷ rest) stay =
      ap (λ b. cond b (subtrees job ++ cut_each limit (count_after count job) rest) (job ∷ cut_each limit count rest)) (All-head (Stays count) job rest stay)
      ∙ ap (λ xs. job ∷ xs) (unchanged count rest (All-tail (Stays count) job rest stay))

  no_room : (count : ℕ) (job : Forest) → Stays count job → is_chance_job job ≡ true → limit < count_after count job
  no_room count job stay chance = leb-false (count_after count job) limit (sym (ap (λ b. b && nat_le (count_after count job) limit) chance) ∙ stay)

  stays_without_room : (count : ℕ) (job : Forest) → (is_chance_job job ≡ true → limit < count_after count job)
      → Stays count job
  stays_without_room count job none =
      elim (is_chance_job job) as (λ b. is_chance_job job ≡ b → b && nat_le (count_after count job) limit ≡ false) [
        | true ↦ λ chance. lt-leb (count_after count job) limit (none chance)
        | false ↦ λ other. refl
      ] refl

  room_or_changes : (jobs : List Forest) → NoRoomToCut limit jobs ⊎ (pass limit jobs ≢ jobs)
  room_or_changes jobs = elim (stays_or_changes (length jobs) jobs) [
    | inl stay ↦ inl (λ k d there. no_room (length jobs) (get_or jobs k d) (stay k d there))
    | inr changes ↦ inr changes
  ]

  keeps_without_room : (jobs : List Forest) → NoRoomToCut limit jobs → pass limit jobs ≡ jobs
  keeps_without_room jobs none = unchanged (length jobs) jobs (λ k d there. stays_without_room (length jobs) (get_or jobs k d) (none k d there))

  pub only_cuts_change : (jobs : List Forest)
      → (pass limit jobs ≡ jobs → NoRoomToCut limit jobs) × (NoRoomToCut limit jobs → pass limit jobs ≡ jobs)
  only_cuts_change jobs = (λ e. elim (room_or_changes jobs) [ inl none ↦ none | inr changes ↦ absurd (changes e) ], keeps_without_room jobs)

  abbrev EachChanges : List Forest → ℕ → Type 0
  EachChanges jobs n = (m : ℕ) → m < n → passes limit (m + 1) jobs ≢ passes limit m jobs

  one_more_pass : (jobs : List Forest) (n : ℕ) → passes limit (n + 1) jobs ≡ pass limit (passes limit n jobs)
  one_more_pass jobs n = let next : n + 1 ≡ suc n = omega arith in ap (λ m. passes limit m jobs) next ∙ passes-suc limit n jobs

  after_no_room : (jobs : List Forest) (n : ℕ) → NoRoomToCut limit (passes limit n jobs)
      → NoRoomToCut limit (passes limit (suc n) jobs)
  after_no_room jobs n none = subst (NoRoomToCut limit) (sym (passes-suc limit n jobs ∙ keeps_without_room (passes limit n jobs) none)) none

  pub until_no_room : (jobs : List Forest) (n : ℕ) → NoRoomToCut limit (passes limit n jobs) ⊎ EachChanges jobs n
  until_no_room jobs zero = inr (λ m below. absurd (omega arith))
  until_no_room jobs (suc n) = elim (until_no_room jobs n) [
    | inl none ↦ inl (after_no_room jobs n none)
    | inr each ↦ elim (room_or_changes (passes limit n jobs)) [
      | inl none ↦ inl (after_no_room jobs n none)
      | inr changes ↦ inr (λ m below. elim (cases_lt m n) [
        | inl earlier ↦ each m earlier
        | inr last ↦
            let same : m ≡ n = omega arith in
            λ e. changes (sym (one_more_pass jobs n) ∙ subst (λ k. passes limit (k + 1) jobs ≡ passes limit k jobs) same e)
      ])
    ]
  ]

-- in the end no job can give way, unless each of the 64 passes replaced some
pub cuts_until_no_room : CutsUntilNoRoom
cuts_until_no_room tree = until_no_room 4096 (tree ∷ []) 64
