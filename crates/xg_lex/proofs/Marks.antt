-- A quotation mark in the bytes that an inside stands for.
use Rattle.std.proofs.Common.{◌≡◌, ℕ, zero, suc, ◌<◌, ◌==◌, ◌&&◌, List, [], ◌∷◌, length, get_or, sym, refl, ap, ◌∙◌, subst, arith, ⊎_elim}
use Rattle.std.specs.List.{Contains}
use Rattle.std.proofs.lemmas.Bool.{cases_Bool}
use Rattle.std.proofs.lemmas.List.Elements.{Contains-append_right}
use Rattle.def_file_tokens.specs.Texts.{begins_with_mark, unescaped}
use Rattle.xg_lex.proofs.Views.{unescaped-escape, unescaped-other}

mark-cons : (bs : List ℕ) → unescaped (34 ∷ bs) ≡ 34 ∷ unescaped bs
unfolding unescaped
mark-cons bs = refl

-- a mark among some bytes is one of those that they stand for
pub mark_stays : (k : ℕ) (bs : List ℕ) → k < length bs → get_or bs k 0 ≡ 34 → Contains (unescaped bs) 34
mark_stays zero [] within mark = absurd (omega arith)
mark_stays zero (b ∷ bs) within mark =
    subst (λ l. Contains l 34) (sym (ap (λ x. unescaped (x ∷ bs)) mark ∙ mark-cons bs)) (0, omega arith, refl)
mark_stays (suc k) [] within mark = absurd (omega arith)
mark_stays (suc k) (b ∷ bs) within mark =
    let rest = mark_stays k bs (omega arith) mark in
    ⊎_elim
    (λ escape. subst (λ l. Contains l 34) (sym (unescaped-escape b bs escape)) rest)
    (λ other. subst (λ l. Contains l 34) (sym (unescaped-other b bs other)) (Contains-append_right (b ∷ []) (unescaped bs) 34 rest))
    (cases_Bool ((b == 92) && begins_with_mark bs))
