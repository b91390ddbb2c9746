-- Worked rows: texts that are known from outside.
use Rattle.std.specs.Prelude.{◌≡◌, ℕ, List, [], ◌∷◌, ◌++◌, codes, negsuc, pos}
use Rattle.def_tree.specs.declared.Player.TheVariants as player
use Rattle.def_cert_text.specs.declared.fault.CertFault.TheVariants.{CertSyntax, CertNumber, CertVersion, CertShort}
use Rattle.def_cert_text.specs.declared.fault.CertFault.TheVariants.{CertTrailing}
use Rattle.def_cert_verdict.specs.declared.fault.Which.TheVariants.{Lower, Upper}
use Rattle.def_cert_verdict.specs.declared.fault.TestFault.TheVariants.{HeadDiffers, NotAPlan, ValueTooGood}
use Rattle.def_cert_verdict.specs.declared.fault.TestFault.TheVariants.{ReplyNotTight, TotalDiffers, TraceWidens}
use Rattle.def_cert_verdict.specs.declared.fault.TestFault.TheVariants.{SecondDiffers}
use Rattle.def_cert_verdict.specs.Verdict.{bracket, head_only}
use Rattle.def_fraction.specs.declared.fault.NumberFault.TheVariants.{Range}
use Rattle.def_tree.specs.declared.Kind.TheVariants.{Leaf}
use Rattle.def_file.specs.declared.FileFault.TheVariants.{Syntax, Number, Players, SetMismatch, NotRecall}
use Rattle.def_file.specs.Content.{Prologue, Contents, game_with}
use Rattle.def_file.specs.Faults.{null_outcome}
use Rattle.def_program.specs.Text.{info_text, line_feed, no_rounds, solve_text}
use Rattle.def_program.specs.TextLines.{fault_line}
use Rattle.def_program.specs.CheckLines.{cert_fault_line, cert_long_line, test_fault_line, verdict_text}

abbrev nobody : Prologue
nobody = record { title = codes "a\"b"; one = codes "A"; two = codes "B"; comment = [] }

-- one leaf with its outcome
abbrev one_leaf : Contents
one_leaf = record {
  nodes = record { kind = Leaf; set = 0; outcome = 1; children = 0 } ∷ [];
  names = [] ∷ [];
  sets = record { chance = []; one = []; two = [] };
  outcomes = record null_outcome { number = 1 } ∷ [];
}

abbrev pub one_leaf_lines : List ℕ
one_leaf_lines = codes "nodes 1 leaves 1" ++ line_feed ++ codes "sets 0 0" ++ line_feed ++ codes "sequences 1 1"
    ++ line_feed ++ codes "unit 1" ++ line_feed ++ codes "mass 0" ++ line_feed

-- version 2 has the sum behind them
pub record OneLeafRows : Type 0 where
  pub solved : solve_text (game_with nobody one_leaf) no_rounds
      ≡ codes "XGCERT 2" ++ line_feed ++ one_leaf_lines ++ codes "sum 0" ++ line_feed
      ++ codes "rounds 0 every 1 scale 1048576" ++ line_feed ++ codes "end" ++ line_feed
  pub info : info_text (game_with nobody one_leaf)
      ≡ codes "title \"a\\\"b\"" ++ line_feed ++ codes "players \"A\" \"B\"" ++ line_feed ++ one_leaf_lines

pub record FaultLineRows : Type 0 where
  pub syntax : fault_line (Syntax 24) ≡ codes "refused 2 Syntax at 24" ++ line_feed
  pub number : fault_line (Number 32 Range) ≡ codes "refused 5 Number at 32 Range" ++ line_feed
  pub players : fault_line (Players 3) ≡ codes "refused 6 Players count 3" ++ line_feed
  pub mismatch : fault_line (SetMismatch 5) ≡ codes "refused 9 SetMismatch node 5" ++ line_feed
  pub recall : fault_line (NotRecall 3 1) ≡ codes "refused 18 NotRecall node 3 earlier 1" ++ line_feed

-- the lines of a check: two brackets, a head alone, and faults of a certificate with their numbers and places
pub record CheckLineRows : Type 0 where
  pub accepted : verdict_text (bracket (record { num = negsuc 4; den = 12 }) (record { num = pos 1; den = 2 }))
      ≡ codes "accepted -5/12 1/2" ++ line_feed
  pub whole : verdict_text (bracket (record { num = pos 0; den = 1 }) (record { num = pos 3; den = 1 }))
      ≡ codes "accepted 0 3" ++ line_feed
  pub head_alone : verdict_text head_only ≡ codes "accepted no bounds" ++ line_feed
  pub long : cert_long_line ≡ codes "refused 21 CertLong" ++ line_feed
  pub syntax : cert_fault_line (CertSyntax 7) ≡ codes "refused 22 CertSyntax at 7" ++ line_feed
  pub number : cert_fault_line (CertNumber 15) ≡ codes "refused 23 CertNumber at 15" ++ line_feed
  pub version : cert_fault_line CertVersion ≡ codes "refused 24 CertVersion" ++ line_feed
  pub short : cert_fault_line CertShort ≡ codes "refused 25 CertShort" ++ line_feed
  pub trailing : cert_fault_line (CertTrailing 248) ≡ codes "refused 26 CertTrailing at 248" ++ line_feed
  pub head : test_fault_line (HeadDiffers 6) ≡ codes "refused 27 HeadDiffers line 6" ++ line_feed
  pub plan : test_fault_line (NotAPlan player.One 1) ≡ codes "refused 28 NotAPlan player 1 set 1" ++ line_feed
  pub value : test_fault_line (ValueTooGood player.Two 1 2)
      ≡ codes "refused 29 ValueTooGood player 2 set 1 action 2" ++ line_feed
  pub reply : test_fault_line (ReplyNotTight player.Two 1)
      ≡ codes "refused 30 ReplyNotTight player 2 set 1" ++ line_feed
  pub lower : test_fault_line (TotalDiffers Lower) ≡ codes "refused 31 TotalDiffers lower" ++ line_feed
  pub upper : test_fault_line (TotalDiffers Upper) ≡ codes "refused 31 TotalDiffers upper" ++ line_feed
  pub trace : test_fault_line (TraceWidens 9) ≡ codes "refused 32 TraceWidens line 9" ++ line_feed
  pub second : test_fault_line SecondDiffers ≡ codes "refused 33 SecondDiffers" ++ line_feed
