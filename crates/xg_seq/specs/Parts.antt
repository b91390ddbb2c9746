-- A form by its parts, without the threads of its leaves.
use Rattle.def_plan.specs.Form.{SequenceForm}
use Rattle.xg_seq.specs.Leaves.{form_with}
use Rattle.xg_seq.specs.declared.form.FormParts.{FormParts}

abbrev pub form_of_parts : FormParts → SequenceForm
form_of_parts parts = form_with parts.one parts.two parts.leaves.items
