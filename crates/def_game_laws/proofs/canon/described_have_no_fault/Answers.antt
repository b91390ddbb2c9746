use Rattle.def_canon.proofs.NoFault.{described_have_no_fault}
use Rattle.def_game_laws.proofs.canon.described_have_no_fault.Goals as goal

pub returns : goal.returns
returns c = described_have_no_fault
