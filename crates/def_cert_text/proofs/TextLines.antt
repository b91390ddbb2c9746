-- The text is its lines one after another.
use Rattle.std.proofs.Common.{◌≡◌, ℕ, List, [], ◌∷◌, ◌++◌, refl, ap, ◌∙◌, append_assoc}
use Rattle.std.specs.Prelude.{codes}
use Rattle.def_reply.specs.Outcome.{Head}
use Rattle.def_cert_text.specs.Fields.{feed, fixed_word, TextItem, field, separator, items_text}
use Rattle.def_cert_text.specs.declared.version.TextVersion.{TextVersion}
use Rattle.def_cert_text.specs.declared.version.TextVersion.TheVariants as versions
use Rattle.def_cert_text.specs.CertText.{numbers_of_game, game_lines_of, asked_line, trace_lines, plan_lines, reply_lines, bracket_line, bounds_lines}
use Rattle.def_cert_text.specs.CertText.{second_line, head_text_of, first_text_of, asked_text, bounds_text, second_text, last_text, versioned_text}
use Rattle.def_cert_text.specs.Laws.{versioned_head, VersionedTextIsItsLines}
use Rattle.def_cert_text.proofs.FormatLaws.{items_text-append}

-- the items of the last line
abbrev pub end_items : List TextItem
end_items = field fixed_word (codes "end") ∷ separator feed ∷ []

-- both lists of the text's parts are laid out by computing, but for the parts of which there are many
many_then : (xs ys : List TextItem) (zs : List ℕ) → items_text ys ≡ zs → items_text (xs ++ ys) ≡ items_text xs ++ zs
many_then xs ys zs e = items_text-append xs ys ∙ ap (λ (bs : List ℕ). items_text xs ++ bs) e

abbrev game_items : TextVersion → Head → List TextItem
game_items v head = (game_lines_of v).items (numbers_of_game head)

abbrev asked_items : Head → List TextItem
asked_items head = asked_line.items (head.rounds, (head.every, head.scale))

behind_head : (v : TextVersion) (head : Head) (first : List ℕ) (ys : List TextItem) (zs : List ℕ) → items_text ys ≡ zs
    → first ++ items_text ((game_items v head ++ asked_items head) ++ ys) ≡ first ++ (head_text_of v head ++ (asked_text head ++ zs))
behind_head v head first ys zs e =
    ap (λ (bs : List ℕ). first ++ bs)
    (many_then (game_items v head ++ asked_items head) ys zs e
    ∙ ap (λ (bs : List ℕ). bs ++ zs) (items_text-append (game_items v head) (asked_items head))
    ∙ append_assoc (head_text_of v head) (asked_text head) zs)

-- a certificate's text is, in turn, its first line, the game's numbers, what was asked, any bounds, with the second bracket
-- behind them in version 2, and its last line
pub versioned_lines : VersionedTextIsItsLines
unfolding items_text
versioned_lines = record {
  head_alone = λ v head. behind_first v head;
  bounds_alone = λ head b.
      behind_head versions.One head (first_text_of versions.One) ((bounds_lines head).items b ++ end_items) (bounds_text head b ++ last_text)
      (items_text-append ((bounds_lines head).items b) end_items);
  with_bounds = λ head b second.
      behind_head versions.Two head (first_text_of versions.Two) ((bounds_lines head).items b ++ (second_line.items second ++ end_items))
      (bounds_text head b ++ (second_text second ++ last_text))
      (many_then ((bounds_lines head).items b) (second_line.items second ++ end_items) (second_text second ++ last_text)
      (items_text-append (second_line.items second) end_items));
  bounds = λ head b.
      many_then ((trace_lines head).items b.trace) _ _
      (many_then ((plan_lines (codes "1") head.sets_one).items b.plan_one) _ _
      (many_then ((reply_lines (codes "2") head.sets_two).items b.reply_two) _ _
      (many_then ((plan_lines (codes "2") head.sets_two).items b.plan_two) _ _
      (many_then ((reply_lines (codes "1") head.sets_one).items b.reply_one) (bracket_line.items (b.low, b.high)) _ refl))));
}
  where
    behind_first : (v : TextVersion) (head : Head) → versioned_text (versioned_head v head) ≡ first_text_of v
        ++ (head_text_of v head ++ (asked_text head ++ last_text))
    behind_first versions.One head = behind_head versions.One head (first_text_of versions.One) end_items last_text refl
    behind_first versions.Two head = behind_head versions.Two head (first_text_of versions.Two) end_items last_text refl
