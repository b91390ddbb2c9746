-- Replies that are copied set by set.
use Rattle.std.proofs.Common.{◌≡◌, ℕ, ◌+◌, ◌-◌, ◌<◌, List, ℤ, pos, Some, length, get_or, slice_get, ap, sym, ◌∙◌, arith, ⊎_elim}
use Rattle.std.proofs.Math.ListN.{set}
use Rattle.std.proofs.lemmas.Bool.{cases_eq}
use Rattle.std.proofs.lemmas.List.{ext_get_or, get_or-map, get_or-set_other, get_or-set_same, length-set}
use Rattle.std.proofs.lemmas.Option.{get_or_from_slice_get}
use Rattle.def_reply.specs.Reply.{SetReply, choices_of, values_of}

module _ (from : List SetReply) where
  -- what is read of a choice and a value is the reply at the set
  read : (k choice : ℕ) (value : ℤ) (d : SetReply) → k < length from → slice_get (choices_of from) k ≡ Some choice
      → slice_get (values_of from) k ≡ Some value → record { value = value; choice = choice } ≡ get_or from k d
  read k choice value d there choice_read value_read =
      let is_choice : choice ≡ (get_or from k d).choice =
      sym (get_or_from_slice_get (choices_of from) k choice 0 choice_read)
      ∙ get_or-map (λ (r : SetReply). r.choice) from k d 0 there in
      let is_value : value ≡ (get_or from k d).value =
      sym (get_or_from_slice_get (values_of from) k value (pos 0) value_read)
      ∙ get_or-map (λ (r : SetReply). r.value) from k d (pos 0) there in
      λ i. record { value = is_value i; choice = is_choice i }

  -- the replies at the first k sets are copied
  pub record IsCopiedUpTo (k : ℕ) (into : List SetReply) : Type 0 where
    pub many : length into ≡ length from
    pub same : (i : ℕ) (d : SetReply) → i < k → get_or into i d ≡ get_or from i d

  pub copied_more : (k : ℕ) (into : List SetReply) (choice : ℕ) (value : ℤ) → k < length from
      → slice_get (choices_of from) (k + 1 - 1) ≡ Some choice → slice_get (values_of from) (k + 1 - 1) ≡ Some value
      → IsCopiedUpTo k into → IsCopiedUpTo (k + 1) (set into (k + 1 - 1) (record { value = value; choice = choice }))
  copied_more k into choice value there choice_read value_read copied =
      let reply : SetReply = record { value = value; choice = choice } in
      let at : ℕ = k + 1 - 1 in
      let within : at < length from = omega arith in
      record {
        many = length-set into at reply ∙ copied.many;
        same = λ i d low.
            ⊎_elim
            (λ here.
            ap (λ j. get_or (set into at reply) j d) here
            ∙ get_or-set_same into at reply d (omega (arith, copied.many))
            ∙ read at choice value d within choice_read value_read ∙ ap (λ j. get_or from j d) (sym here))
            (λ other. get_or-set_other into at i reply d other ∙ copied.same i d (omega arith))
            (cases_eq i at);
      }

  -- all of them
  pub copied_all : (k : ℕ) (into : List SetReply) → k ≡ length from → IsCopiedUpTo k into → into ≡ from
  copied_all k into all copied =
      let none : SetReply = record { value = pos 0; choice = 0 } in
      ext_get_or none into from copied.many (λ i low. copied.same i none (omega (arith, copied.many)))
