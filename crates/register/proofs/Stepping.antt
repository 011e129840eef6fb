-- A step and its record, however they were found, are undone.
use Rattle.std.proofs.Common.{◌≡◌, List, ◌∙◌, ap₂}
use Rattle.register.specs.declared.instruction.Instruction.{Instruction}
use Rattle.register.specs.declared.tableau.RegisterTableau.{RegisterTableau}
use Rattle.register.specs.declared.record.RegisterRecord.{RegisterRecord}
use Rattle.register.specs.Step.{after, trace, back}
use Rattle.register.specs.Laws.Undoing.{back_after}

pub step_undone : (p : List Instruction) (t u : RegisterTableau) (r : RegisterRecord) → u ≡ after p t → r ≡ trace p t → back p u r ≡ t
step_undone p t u r moved noted = ap₂ (back p) moved noted ∙ back_after p t
