-- Languages of tokens, and what may be carried along them from token to token: where reading is stuck, and where a
-- part ends.
use Rattle.std.proofs.Common.{◌≡◌, ◌≢◌, ℕ, List, [], ◌∷◌, ◌++◌, Ok, Err, sym, refl, ap, ◌∙◌, subst, inl, inr}
use Rattle.def_file_tokens.specs.declared.Token.{Token}
use Rattle.def_file_tokens.specs.declared.Token.TheVariants as kinds
use Rattle.def_file_tokens.specs.declared.Lexeme.{Lexeme}
use Rattle.def_file_tokens.specs.declared.LexFault.TheVariants as lexing
use Rattle.def_file_tokens.specs.Tokens.{next_from}
use Rattle.def_fraction.specs.declared.fault.NumberFault.{NumberFault}
use Rattle.def_file.specs.declared.FileFault.{FileFault}
use Rattle.def_file.specs.declared.FileFault.TheVariants.{Syntax, UnexpectedEnd, Number}
use Rattle.def_file_form.specs.Form.{Spelled, number, text, spelled_at}
use Rattle.def_file_form.specs.Offends.{AreNext, NumberKind, IsFront, TakesNumbers, TakesText, IsUnfit, IsNumberFault, Stops, Offends, EndsWhole}

-- two languages with the same words
pub record Alike (L M : List Spelled → Type 0) : Type 0 where
  pub to : (ss : List Spelled) → L ss → M ss
  pub back : (ss : List Spelled) → M ss → L ss

-- what may stand behind a first token
abbrev pub After : Spelled → (List Spelled → Type 0) → List Spelled → Type 0
After s L ss = L (s ∷ ss)

-- no first token, or one of another kind
abbrev pub FirstIsOther : Token → List Spelled → Type 0
FirstIsOther kind [] = Unit {0}
FirstIsOther kind (s ∷ ss) = s.kind ≢ kind

-- the first language has the words of the second, and beside them at most some with a first token of a kind
pub record AlikeBut (kind : Token) (L M : List Spelled → Type 0) : Type 0 where
  pub to : (ss : List Spelled) → FirstIsOther kind ss → L ss → M ss
  pub back : (ss : List Spelled) → M ss → L ss

-- the next token, which isn't the end
pub record NextIs (whole : List ℕ) (at : ℕ) (t : Lexeme) : Type 0 where
  pub next : next_from whole at ≡ Ok t
  pub not_end : t.kind ≢ kinds.End

-- what comes next isn't of a kind
pub record NotNext (kind : Token) (whole : List ℕ) (at : ℕ) : Type 0 where
  pub token : (t : Lexeme) → next_from whole at ≡ Ok t → t.kind ≢ kind
  pub unclosed : (p : ℕ) → next_from whole at ≡ Err (lexing.Unclosed p) → kind ≢ kinds.Text

-- what may be carried along
pub record Walk (whole : List ℕ) (P : (List Spelled → Type 0) → ℕ → Type 0) : Type 1 where
  pub alike : (L M : List Spelled → Type 0) (at : ℕ) → Alike L M → P M at → P L at
  pub step : (L : List Spelled → Type 0) (at : ℕ) (t : Lexeme) → NextIs whole at t
      → P (After (spelled_at whole t) L) t.end → P L at
  pub other : (kind : Token) → kind ≢ kinds.Number → (L M : List Spelled → Type 0) (at : ℕ) → AlikeBut kind L M
      → NotNext kind whole at → P M at → P L at

-- The fault with which some tokens stop, in either of two languages.

-- tokens of two languages go on alike, with each token that may come
record GoOnAlike (Fits : Spelled → Type 0) (L M : List Spelled → Type 0) (ts us : List Spelled) : Type 0 where
  whole_to : L ts → M us
  whole_back : M us → L ts
  front_to : (s : Spelled) → Fits s → IsFront L (ts ++ s ∷ []) → IsFront M (us ++ s ∷ [])
  front_back : (s : Spelled) → Fits s → IsFront M (us ++ s ∷ []) → IsFront L (ts ++ s ∷ [])

-- what comes next may come
record FitsNext (Fits : Spelled → Type 0) (whole : List ℕ) (place : ℕ) : Type 0 where
  token : (t : Lexeme) → next_from whole place ≡ Ok t → Fits (spelled_at whole t)
  number : (bytes : List ℕ) → Fits (number bytes)
  unclosed : (p : ℕ) → next_from whole place ≡ Err (lexing.Unclosed p) → (inside : List ℕ) → Fits (text inside)

-- where the tokens can't be taken on, with this fault
pub data Halt (L : List Spelled → Type 0) (whole : List ℕ) (tokens : List Spelled) (place : ℕ)
    (fault : FileFault) : Type 0 where
  bad_byte : (at : ℕ) → fault ≡ Syntax at → (L tokens → ⊥) → next_from whole place ≡ Err (lexing.Syntax at)
      → Halt L whole tokens place fault
  bad_token : (at : ℕ) → fault ≡ Syntax at → (L tokens → ⊥) → IsUnfit L whole tokens place at
      → Halt L whole tokens place fault
  no_token : (t : Lexeme) → fault ≡ UnexpectedEnd → (L tokens → ⊥) → next_from whole place ≡ Ok t → t.kind ≡ kinds.End
      → Halt L whole tokens place fault
  no_mark : (at : ℕ) → fault ≡ UnexpectedEnd → next_from whole place ≡ Err (lexing.Unclosed at)
      → (L tokens → TakesText L tokens) → Halt L whole tokens place fault
  bad_number : (at : ℕ) (why : NumberFault) → fault ≡ Number at why → (L tokens → ⊥)
      → IsNumberFault L whole tokens place at why → Halt L whole tokens place fault

module _ (Fits : Spelled → Type 0) (L M : List Spelled → Type 0) (whole : List ℕ) (ts us : List Spelled) (place : ℕ)
    (alike : GoOnAlike Fits L M ts us) (may : FitsNext Fits whole place) where
  text_to : (p : ℕ) → next_from whole place ≡ Err (lexing.Unclosed p) → TakesText L ts → TakesText M us
  text_to p next takes = (takes.0, takes.1, alike.front_to (text takes.0) (may.unclosed p next takes.0) takes.2)

  text_back : (p : ℕ) → next_from whole place ≡ Err (lexing.Unclosed p) → TakesText M us → TakesText L ts
  text_back p next takes = (takes.0, takes.1, alike.front_back (text takes.0) (may.unclosed p next takes.0) takes.2)

  numbers_to : (numbers : NumberKind) → TakesNumbers L ts numbers → TakesNumbers M us numbers
  numbers_to numbers takes bytes = (
    (λ front. (takes bytes).0 (alike.front_back (number bytes) (may.number bytes) front)),
    (λ none. alike.front_to (number bytes) (may.number bytes) ((takes bytes).1 none)),
  )

  numbers_back : (numbers : NumberKind) → TakesNumbers M us numbers → TakesNumbers L ts numbers
  numbers_back numbers takes bytes = (
    (λ front. (takes bytes).0 (alike.front_to (number bytes) (may.number bytes) front)),
    (λ none. alike.front_back (number bytes) (may.number bytes) ((takes bytes).1 none)),
  )

  unfit_back : (at : ℕ) → IsUnfit M whole us place at → IsUnfit L whole ts place at
  unfit_back at u = record {
    token = u.token;
    next = u.next;
    not_end = u.not_end;
    start = u.start;
    unfit = λ front. u.unfit (alike.front_to (spelled_at whole u.token) (may.token u.token u.next) front);
    no_number = λ is numbers takes. u.no_number is numbers (numbers_to numbers takes);
  }

  number_back : (at : ℕ) (why : NumberFault) → IsNumberFault M whole us place at why
      → IsNumberFault L whole ts place at why
  number_back at why n = record {
    token = n.token;
    next = n.next;
    is_number = n.is_number;
    start = n.start;
    numbers = n.numbers;
    needed = numbers_back n.numbers n.needed;
    has_fault = n.has_fault;
  }

  halt_back : (fault : FileFault) → Halt M whole us place fault → Halt L whole ts place fault
  halt_back fault (bad_byte at is unfinished next) = bad_byte at is (λ l. unfinished (alike.whole_to l)) next
  halt_back fault (bad_token at is unfinished unfit) = bad_token at is (λ l. unfinished (alike.whole_to l)) (unfit_back at unfit)
  halt_back fault (no_token t is unfinished next ends) = no_token t is (λ l. unfinished (alike.whole_to l)) next ends
  halt_back fault (no_mark at is next takes) = no_mark at is next (λ l. text_back at next (takes (alike.whole_to l)))
  halt_back fault (bad_number at why is unfinished n) = bad_number at why is (λ l. unfinished (alike.whole_to l)) (number_back at why n)

  ends_back : EndsWhole M whole us place → EndsWhole L whole ts place
  ends_back e = record {
    token = λ t next front. e.token t next (alike.front_to (spelled_at whole t) (may.token t next) front);
    no_text = λ p next takes. e.no_text p next (text_to p next takes);
  }

-- reading is stuck behind some tokens
pub record Stuck (L : List Spelled → Type 0) (whole : List ℕ) (at : ℕ) (fault : FileFault) : Type 0 where
  pub tokens : List Spelled
  pub place : ℕ
  pub before : AreNext whole at tokens place
  pub front : IsFront L tokens
  pub halt : Halt L whole tokens place fault

-- a part ends behind some tokens, with which it is whole, and no number goes on either
pub record PartEndsAt (L : List Spelled → Type 0) (whole : List ℕ) (end at : ℕ) : Type 0 where
  pub tokens : List Spelled
  pub before : AreNext whole at tokens end
  pub word : L tokens
  pub ends : EndsWhole L whole tokens end
  pub no_number : (bytes : List ℕ) → IsFront L (tokens ++ number bytes ∷ []) → ⊥

-- Both are carried along.

abbrev Any : Spelled → Type 0
Any s = Unit {0}

any_may : (whole : List ℕ) (place : ℕ) → FitsNext Any whole place
any_may whole place = record { token = λ t next. tt; number = λ bytes. tt; unclosed = λ p next inside. tt }

alike_goes : (L M : List Spelled → Type 0) → Alike L M → (ts : List Spelled) → GoOnAlike Any L M ts ts
alike_goes L M alike ts = record {
  whole_to = alike.to ts;
  whole_back = alike.back ts;
  front_to = λ s fits front. (front.0, alike.to _ front.1);
  front_back = λ s fits front. (front.0, alike.back _ front.1);
}

after_goes : (L : List Spelled → Type 0) (s : Spelled) (ts : List Spelled) → GoOnAlike Any L (After s L) (s ∷ ts) ts
after_goes L s ts = record {
  whole_to = λ l. l;
  whole_back = λ l. l;
  front_to = λ u fits front. front;
  front_back = λ u fits front. front;
}

-- where the languages are alike but for a kind
module _ (kind : Token) (no_number : kind ≢ kinds.Number) (L M : List Spelled → Type 0) (but : AlikeBut kind L M) where
  but_goes : GoOnAlike (λ s. s.kind ≢ kind) L M [] []
  but_goes = record {
    whole_to = but.to [] tt;
    whole_back = but.back [];
    front_to = λ s fits front. (front.0, but.to (s ∷ front.0) fits front.1);
    front_back = λ s fits front. (front.0, but.back (s ∷ front.0) front.1);
  }

  but_may : (whole : List ℕ) (at : ℕ) → NotNext kind whole at → FitsNext (λ s. s.kind ≢ kind) whole at
  but_may whole at none = record {
    token = none.token;
    number = λ bytes same. no_number (sym same);
    unclosed = λ p next inside same. none.unclosed p next (sym same);
  }

  behind_goes : (s : Spelled) → s.kind ≢ kind → (ss : List Spelled) → GoOnAlike Any L M (s ∷ ss) (s ∷ ss)
  behind_goes s fits ss = record {
    whole_to = but.to (s ∷ ss) fits;
    whole_back = but.back (s ∷ ss);
    front_to = λ u _ front. (front.0, but.to _ fits front.1);
    front_back = λ u _ front. (front.0, but.back _ front.1);
  }

first_fits : (kind : Token) (whole : List ℕ) (at : ℕ) → NotNext kind whole at
    → (s : Spelled) (ss : List Spelled) (place : ℕ) → AreNext whole at (s ∷ ss) place → s.kind ≢ kind
first_fits kind whole at none s ss place before same = none.token before.0 before.1 (ap (λ (x : Spelled). x.kind) before.3 ∙ same)

module _ (whole : List ℕ) (fault : FileFault) where
  stuck_alike : (L M : List Spelled → Type 0) (at : ℕ) → Alike L M → Stuck M whole at fault → Stuck L whole at fault
  stuck_alike L M at alike s = record {
    tokens = s.tokens;
    place = s.place;
    before = s.before;
    front = (s.front.0, alike.back _ s.front.1);
    halt = halt_back Any L M whole s.tokens s.tokens s.place (alike_goes L M alike s.tokens) (any_may whole s.place) fault s.halt;
  }

  stuck_step : (L : List Spelled → Type 0) (at : ℕ) (t : Lexeme) → NextIs whole at t
      → Stuck (After (spelled_at whole t) L) whole t.end fault → Stuck L whole at fault
  stuck_step L at t step s = record {
    tokens = spelled_at whole t ∷ s.tokens;
    place = s.place;
    before = (t, step.next, step.not_end, refl, s.before);
    front = s.front;
    halt = halt_back Any L (After (spelled_at whole t) L) whole (spelled_at whole t ∷ s.tokens) s.tokens s.place (after_goes L (spelled_at whole t) s.tokens)
        (any_may whole s.place) fault s.halt;
  }

  stuck_other : (kind : Token) → kind ≢ kinds.Number → (L M : List Spelled → Type 0) (at : ℕ) → AlikeBut kind L M
      → NotNext kind whole at → Stuck M whole at fault → Stuck L whole at fault
  stuck_other kind no_number L M at but none s = other s.tokens s.place s.before s.front s.halt
    where
      other : (tokens : List Spelled) (place : ℕ) → AreNext whole at tokens place → IsFront M tokens
          → Halt M whole tokens place fault → Stuck L whole at fault
      other [] place before front halt = record {
        tokens = [];
        place = place;
        before = before;
        front = (front.0, but.back front.0 front.1);
        halt = halt_back (λ s. s.kind ≢ kind) L M whole [] [] place (but_goes kind no_number L M but)
            (but_may kind no_number L M but whole place (subst (NotNext kind whole) before none)) fault halt;
      }
      other (s ∷ ss) place before front halt = record {
        tokens = s ∷ ss;
        place = place;
        before = before;
        front = (front.0, but.back _ front.1);
        halt = halt_back Any L M whole (s ∷ ss) (s ∷ ss) place (behind_goes kind no_number L M but s (first_fits kind whole at none s ss place before) ss)
            (any_may whole place) fault halt;
      }

-- where reading is stuck is carried along a language, from token to token
pub stuck_walk : (whole : List ℕ) (fault : FileFault) → Walk whole (λ L at. Stuck L whole at fault)
stuck_walk whole fault = record { alike = stuck_alike whole fault; step = stuck_step whole fault; other = stuck_other whole fault }

module _ (whole : List ℕ) (end : ℕ) where
  ends_alike : (L M : List Spelled → Type 0) (at : ℕ) → Alike L M → PartEndsAt M whole end at
      → PartEndsAt L whole end at
  ends_alike L M at alike s = record {
    tokens = s.tokens;
    before = s.before;
    word = alike.back _ s.word;
    ends = ends_back Any L M whole s.tokens s.tokens end (alike_goes L M alike s.tokens) (any_may whole end) s.ends;
    no_number = λ bytes front. s.no_number bytes (front.0, alike.to _ front.1);
  }

  ends_step : (L : List Spelled → Type 0) (at : ℕ) (t : Lexeme) → NextIs whole at t
      → PartEndsAt (After (spelled_at whole t) L) whole end t.end → PartEndsAt L whole end at
  ends_step L at t step s = record {
    tokens = spelled_at whole t ∷ s.tokens;
    before = (t, step.next, step.not_end, refl, s.before);
    word = s.word;
    ends = ends_back Any L (After (spelled_at whole t) L) whole (spelled_at whole t ∷ s.tokens) s.tokens end (after_goes L (spelled_at whole t) s.tokens)
        (any_may whole end) s.ends;
    no_number = s.no_number;
  }

  ends_other : (kind : Token) → kind ≢ kinds.Number → (L M : List Spelled → Type 0) (at : ℕ) → AlikeBut kind L M
      → NotNext kind whole at → PartEndsAt M whole end at → PartEndsAt L whole end at
  ends_other kind no_number L M at but none s = other s.tokens s.before s.word s.ends s.no_number
    where
      other : (tokens : List Spelled) → AreNext whole at tokens end → M tokens → EndsWhole M whole tokens end
          → ((bytes : List ℕ) → IsFront M (tokens ++ number bytes ∷ []) → ⊥) → PartEndsAt L whole end at
      other [] before word ends numbers = record {
        tokens = [];
        before = before;
        word = but.back [] word;
        ends = ends_back (λ s. s.kind ≢ kind) L M whole [] [] end (but_goes kind no_number L M but)
            (but_may kind no_number L M but whole end (subst (NotNext kind whole) before none)) ends;
        no_number = λ bytes front. numbers bytes (front.0, but.to _ (λ same. no_number (sym same)) front.1);
      }
      other (s ∷ ss) before word ends numbers =
          let goes = behind_goes kind no_number L M but s (first_fits kind whole at none s ss end before) ss in
          record {
            tokens = s ∷ ss;
            before = before;
            word = but.back _ word;
            ends = ends_back Any L M whole (s ∷ ss) (s ∷ ss) end goes (any_may whole end) ends;
            no_number = λ bytes front. numbers bytes (goes.front_to (number bytes) tt front);
          }

-- where a part ends is carried along a language, from token to token
pub ends_walk : (whole : List ℕ) (end : ℕ) → Walk whole (λ L at. PartEndsAt L whole end at)
ends_walk whole end = record { alike = ends_alike whole end; step = ends_step whole end; other = ends_other whole end }

-- what is stuck offends
pub halt_stops : (L : List Spelled → Type 0) (whole : List ℕ) (tokens : List Spelled) (place : ℕ) (fault : FileFault)
    → Halt L whole tokens place fault → Stops L whole tokens place fault
halt_stops L whole tokens place fault (bad_byte p is unfinished next) = subst (Stops L whole tokens place) (sym is) (unfinished, inl next)
halt_stops L whole tokens place fault (bad_token p is unfinished unfit) = subst (Stops L whole tokens place) (sym is) (unfinished, inr unfit)
halt_stops L whole tokens place fault (no_token t is unfinished next ends) = subst (Stops L whole tokens place) (sym is) (inl (unfinished, t, next, ends))
halt_stops L whole tokens place fault (no_mark p is next takes) = subst (Stops L whole tokens place) (sym is) (inr (p, next, takes))
halt_stops L whole tokens place fault (bad_number p why is unfinished n) = subst (Stops L whole tokens place) (sym is) n

-- where reading is stuck stands the first token that can't be taken, with the same fault
pub offends : (L : List Spelled → Type 0) (whole : List ℕ) (at : ℕ) (fault : FileFault) → Stuck L whole at fault
    → Offends L whole at fault
offends L whole at fault s = record {
  tokens = s.tokens;
  place = s.place;
  before = s.before;
  front = s.front;
  stop = halt_stops L whole s.tokens s.place fault s.halt;
}
