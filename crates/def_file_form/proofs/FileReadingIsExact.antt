-- A whole file is read exactly where it has a reading without a fault.
use Rattle.std.proofs.Common.{◌≡◌, ℕ, ◌+◌, Bool, true, false, cond, List, [], ◌++◌, length, map, Result, Ok, Err, sym, refl, ap, ◌∙◌, subst, arith, append-nil}
use Rattle.def_file_tokens.specs.declared.Token.TheVariants as kinds
use Rattle.def_file_tokens.specs.declared.Lexeme.{Lexeme}
use Rattle.def_file_tokens.specs.declared.LexFault.{LexFault}
use Rattle.def_file_tokens.specs.declared.LexFault.TheVariants as lexing
use Rattle.def_file_tokens.specs.Tokens.{span, next_from}
use Rattle.def_tree.specs.Tree.{IsWhole}
use Rattle.def_file.specs.declared.FileFault.TheVariants.{TrailingText}
use Rattle.def_file.specs.Content.{Contents, GameFile, no_contents, game_with}
use Rattle.def_tree.specs.Rules.{most_nodes}
use Rattle.def_file.specs.Reading.{is_kind, prologue_at, entries_from, trailing, nothing_at, game_at}
use Rattle.def_file.specs.Entries.{contents_of}
use Rattle.def_file_form.specs.Form.{spelled, IsPrologue}
use Rattle.def_file_form.specs.Laws.{StandsFor}
use Rattle.def_file_form.proofs.TokenByToken.{then_ok, is_kind-true, read_then}
use Rattle.def_file_form.proofs.SoundEntries.{prologue_read}
use Rattle.def_file_form.proofs.CompleteEntries.{clear_entries, prologue_taken}
use Rattle.def_file_form.proofs.Pieces.{pieces_found, ahead_pieces}
use Rattle.def_file.proofs.NoFault.{entries_limit, nothing_at_fault}
use Rattle.def_file_form.proofs.Entries.{AreEntriesThen, entries_then, entries_read, entries_taken}

-- nothing stands at the end
pub nothing_ok : (whole : List ℕ) (at end : ℕ) → nothing_at whole at ≡ Ok end
    → (l : Lexeme) × (next_from whole at ≡ Ok l) × (kinds.End ≡ l.kind)
unfolding nothing_at
nothing_ok whole at end e = by_next (next_from whole at) refl e
  where
    chosen : (l : Lexeme) (b : Bool) → is_kind kinds.End l.kind ≡ b → next_from whole at ≡ Ok l
        → cond b (Ok l.end) (Err (TrailingText l.start)) ≡ Ok end
        → (l : Lexeme) × (next_from whole at ≡ Ok l) × (kinds.End ≡ l.kind)
    chosen l true is next e = (l, next, is_kind-true kinds.End l.kind is)
    chosen l false is next e = absurd cc

    by_next : (r : Result Lexeme LexFault) → next_from whole at ≡ r → trailing r ≡ Ok end
        → (l : Lexeme) × (next_from whole at ≡ Ok l) × (kinds.End ≡ l.kind)
    by_next (Ok l) next e = chosen l (is_kind kinds.End l.kind) refl next e
    by_next (Err (lexing.Syntax place)) next e = absurd cc
    by_next (Err (lexing.Unclosed place)) next e = absurd cc

pub ok_nothing : (whole : List ℕ) (at : ℕ) → next_from whole at ≡ Ok (span kinds.End (length whole) (length whole))
    → nothing_at whole at ≡ Ok (length whole)
unfolding nothing_at
ok_nothing whole at next = ap trailing next

-- without an entry nothing is known and nothing is at fault
none_known : no_contents ≡ contents_of []
none_known = refl

-- what is accepted stands for its game
pub game_read : (bytes : List ℕ) (game : GameFile) → game_at bytes ≡ Ok game → StandsFor bytes game
unfolding game_at
game_read bytes game e =
    then_ok (prologue_at bytes 0) _ _ e (λ head e0 e.
    then_ok (entries_from (most_nodes + 1) no_contents bytes head.1) _ _ e (λ body e1 e.
    then_ok (nothing_at bytes body.1) _ _ e (λ end e2 e.
    let p = prologue_read bytes 0 (omega arith) head e0 in
    let es = entries_read (most_nodes + 1) [] no_contents none_known nothing_at_fault tt bytes head.1 p.within body e1 in
    let last = nothing_ok bytes body.1 end e2 in
    let both = read_then bytes 0 head.1 body.1 (IsPrologue head.0) (AreEntriesThen es.more) p es.taken in
    let found = pieces_found bytes both.tokens body.1 last.0 both.takes last.1 last.2 in
    let parts = both.is [] in
    let tokens : both.tokens ++ [] ≡ map spelled found.pieces = append-nil both.tokens ∙ sym found.tokens in
    let same : game_with head.0 body.0 ≡ game = cc in
    record {
      prologue = head.0;
      entries = es.more;
      file = record {
        pieces = found.pieces;
        space = found.space;
        in_turn = found.in_turn;
        spelling = found.spelling;
        behind = parts.0;
        prologue = subst (λ ss. IsPrologue head.0 ss parts.0) tokens parts.1;
        entries = entries_then es.more parts.0 parts.2;
        whole = subst (λ (c : Contents). IsWhole c.nodes) es.known es.is_whole;
      };
      no_fault = es.no_fault;
      game_is = sym same ∙ ap (game_with head.0) es.known;
    })))

-- what stands for a game is accepted
pub game_taken : (bytes : List ℕ) (game : GameFile) → StandsFor bytes game → game_at bytes ≡ Ok game
unfolding game_at
game_taken bytes game is =
    let f = is.file in
    let limit = entries_limit most_nodes refl is.entries is.no_fault in
    let head = prologue_taken bytes 0 is.prologue (map spelled f.pieces) f.behind f.prologue (clear_entries is.entries f.behind f.entries)
    (ahead_pieces bytes f.pieces f.space f.in_turn f.spelling) in
    let body = entries_taken (most_nodes + 1) [] is.entries no_contents none_known is.no_fault f.whole (omega (arith, limit)) bytes head.mid f.behind f.entries
    head.ahead in
    let last = ok_nothing bytes body.mid body.ahead.next in
    rw (head.ok, body.ok, last) (ap Ok (sym is.game_is))
