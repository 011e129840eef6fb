-- Each step's record leads back to where the step was made, so all records lead back to the start.
use Rattle.std.proofs.Common.{◌≡◌, [], vec_items, sym, ap, ◌∙◌, ap₂}
use Rattle.std.proofs.lemmas.List.{nil_from_length}
use Rattle.watch.proofs.Unwinding.{unwound, unwound_none, unwound_last, unwound_step}
use Rattle.watch.proofs.walk.there_and_back.Goals as goal

pub forward-init : goal.forward-init
forward-init g c =
    let back = (g.M.Machine.model c.args.machine.now).back in
    ap (unwound back c.args.work.now) c.new-noted.ensures.items ∙ unwound_none back c.args.work.now

pub forward-preserved : goal.forward-preserved
forward-preserved g c =
    let model = g.M.Machine.model c.args.machine.now in
    let t = c.forward.work in
    ap (unwound model.back c.step-record.new.work) c.in_ok-push.ensures.items
    ∙ unwound_step model.back t c.step-record.new.work (vec_items c.forward.noted) c.step-record.result
    (ap₂ model.back c.step-record.ensures.after c.step-record.ensures.trace ∙ model.back_after t)
    ∙ c.forward.invariant

pub back-preserved : goal.back-preserved
back-preserved g c =
    let back = (g.M.Machine.model c.args.machine.now).back in
    ap (λ w. unwound back w (vec_items c.pop.new.self)) c.unstep.ensures
    ∙ sym (unwound_last back c.back.work (vec_items c.pop.new.self) c.in-Some.record)
    ∙ ap (unwound back c.back.work) (sym c.in-Some.ensures.items)
    ∙ c.back.invariant

pub returns : goal.returns
returns g c =
    let back = (g.M.Machine.model c.args.machine.now).back in
    let none : vec_items c.back.noted ≡ [] = nil_from_length (vec_items c.back.noted) (sym c.back.noted.ok.0 ∙ c.in_default.ensures.cases.0) in
    record { home = λ _. sym (unwound_none back c.back.work) ∙ ap (unwound back c.back.work) (sym none) ∙ c.back.invariant }
