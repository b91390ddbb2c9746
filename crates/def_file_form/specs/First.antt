-- The first fault of a game file, by the order in which faults count: those of the head of the prologue, then the
-- number of players, then the comment, then the entries one after the other, and last what stands behind them. Of each
-- entry the first token that can't be taken counts before the rules of sets and outcomes.
--     IsHeadTokens, IsCommentTokens, IsEntryTokens      tokens that are the whole of such a part
--     IsReadUpTo bytes p rs end                         the prologue and these entries, without a fault,
--                                                       up to an offset
--     FirstFault bytes fault                            the fault is the first
use Rattle.std.specs.Prelude.{◌≡◌, ◌≢◌, ℕ, List, [], ◌∷◌, length, unwrap_or, Option}
use Rattle.def_file_tokens.specs.Spelling.{IsFirstByteFrom}
use Rattle.def_tree.specs.Tree.{Begins, wanted}
use Rattle.def_file.specs.declared.FileFault.{FileFault}
use Rattle.def_file.specs.declared.FileFault.TheVariants.{TrailingText, Players}
use Rattle.def_file.specs.Content.{Prologue, Record}
use Rattle.def_file.specs.Entries.{contents_of}
use Rattle.def_file.specs.EntryRules.{IsFirstBroken}
use Rattle.def_file.specs.EntryLaws.{HaveNoFault}
use Rattle.def_file_form.specs.Form.{Spelled, IsHead, IsName, IsEntry}
use Rattle.def_file_form.specs.Offends.{AreNext, Offends, EndsWhole}

abbrev pub IsHeadTokens : List Spelled → Type 0
IsHeadTokens tokens = (title : List ℕ) × (names : List (List ℕ)) × IsHead title names tokens []

abbrev pub IsCommentTokens : List Spelled → Type 0
IsCommentTokens tokens = (comment : Option (List ℕ)) × IsName comment tokens []

abbrev pub IsEntryTokens : List Spelled → Type 0
IsEntryTokens tokens = (r : Record) × IsEntry r tokens []

-- the head of the prologue, from the begin up to an offset
pub record IsHeadUpTo (bytes title : List ℕ) (names : List (List ℕ)) (end : ℕ) : Type 0 where
  pub tokens : List Spelled
  pub next : AreNext bytes 0 tokens end
  pub head : IsHead title names tokens []

-- the comment, from an offset up to another
pub record IsCommentFrom (bytes : List ℕ) (at : ℕ) (comment : Option (List ℕ)) (end : ℕ) : Type 0 where
  pub tokens : List Spelled
  pub next : AreNext bytes at tokens end
  pub name : IsName comment tokens []
  pub ends : EndsWhole IsCommentTokens bytes tokens end

-- an entry, which goes on while it can, from an offset up to another
pub record IsEntryFrom (bytes : List ℕ) (at : ℕ) (r : Record) (end : ℕ) : Type 0 where
  pub tokens : List Spelled
  pub next : AreNext bytes at tokens end
  pub entry : IsEntry r tokens []
  pub ends : EndsWhole IsEntryTokens bytes tokens end

abbrev pub AreEntriesFrom : List ℕ → ℕ → List Record → ℕ → Type 0
AreEntriesFrom bytes at [] end = at ≡ end
AreEntriesFrom bytes at (r ∷ rs) end = (mid : ℕ) × IsEntryFrom bytes at r mid × AreEntriesFrom bytes mid rs end

pub record IsPrologueUpTo (bytes : List ℕ) (p : Prologue) (end : ℕ) : Type 0 where
  pub behind : ℕ
  pub comment : Option (List ℕ)
  pub head : IsHeadUpTo bytes p.title (p.one ∷ p.two ∷ []) behind
  pub remark : IsCommentFrom bytes behind comment end
  pub text : p.comment ≡ unwrap_or comment []

-- entries without a fault, each of which comes where the tree wants a node
pub record IsReadUpTo (bytes : List ℕ) (p : Prologue) (rs : List Record) (end : ℕ) : Type 0 where
  pub behind : ℕ
  pub prologue : IsPrologueUpTo bytes p behind
  pub entries : AreEntriesFrom bytes behind rs end
  pub no_fault : HaveNoFault rs
  pub begins : Begins 1 (contents_of rs).nodes

-- other than two players
pub record IsPlayersFault (bytes : List ℕ) (fault : FileFault) : Type 0 where
  pub title : List ℕ
  pub names : List (List ℕ)
  pub end : ℕ
  pub head : IsHeadUpTo bytes title names end
  pub count : length names ≢ 2
  pub fault_is : fault ≡ Players (length names)

-- the comment can't be taken
pub record IsCommentFault (bytes : List ℕ) (fault : FileFault) : Type 0 where
  pub title : List ℕ
  pub one : List ℕ
  pub two : List ℕ
  pub end : ℕ
  pub head : IsHeadUpTo bytes title (one ∷ two ∷ []) end
  pub offends : Offends IsCommentTokens bytes end fault

-- the next entry can't be taken
pub record IsEntryFault (bytes : List ℕ) (fault : FileFault) : Type 0 where
  pub prologue : Prologue
  pub entries : List Record
  pub end : ℕ
  pub read : IsReadUpTo bytes prologue entries end
  pub open_tree : wanted 1 (contents_of entries).nodes ≢ 0
  pub offends : Offends IsEntryTokens bytes end fault

-- the next entry breaks a rule, and this is the first
pub record IsRuleFault (bytes : List ℕ) (fault : FileFault) : Type 0 where
  pub prologue : Prologue
  pub entries : List Record
  pub end : ℕ
  pub read : IsReadUpTo bytes prologue entries end
  pub open_tree : wanted 1 (contents_of entries).nodes ≢ 0
  pub entry : Record
  pub behind : ℕ
  pub next : IsEntryFrom bytes end entry behind
  pub rule : IsFirstBroken entries entry fault

-- a byte other than white space stands behind the last entry of the tree
pub record IsTrailingFault (bytes : List ℕ) (fault : FileFault) : Type 0 where
  pub prologue : Prologue
  pub entries : List Record
  pub end : ℕ
  pub read : IsReadUpTo bytes prologue entries end
  pub whole_tree : wanted 1 (contents_of entries).nodes ≡ 0
  pub place : ℕ
  pub byte : IsFirstByteFrom bytes end place
  pub fault_is : fault ≡ TrailingText place

pub data FirstFault (bytes : List ℕ) (fault : FileFault) : Type 0 where
  in_head : Offends IsHeadTokens bytes 0 fault → FirstFault bytes fault
  in_players : IsPlayersFault bytes fault → FirstFault bytes fault
  in_comment : IsCommentFault bytes fault → FirstFault bytes fault
  in_entry : IsEntryFault bytes fault → FirstFault bytes fault
  in_rules : IsRuleFault bytes fault → FirstFault bytes fault
  behind_tree : IsTrailingFault bytes fault → FirstFault bytes fault
