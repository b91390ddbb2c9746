use Rattle.std.proofs.Common.{◌≡◌, ◌∷◌, ◌++◌, take}
use Rattle.def_file_tokens.specs.Texts.{escaped}
use Rattle.xg_load.proofs.info.put_quoted.Given as goal

abbrev pub invariant-loop-byte : goal.invariant-loop-byte
invariant-loop-byte l = l.out.items ≡ l.fn.out.items ++ 34 ∷ escaped (take l.byte-index l.text)
