-- The part of the output that is lent begins where the last record ended.
use Prim.Native.Nat.{◌*◌, ◌≤◌}
use mathlib.Core.Path.{sym, ap, ◌∙◌}
use native.Mathlib.Omega.{arith}
use lib.ListN.{length}
use Rattle.step.proofs.Written.{put-done, put_refused, put_full}
use Rattle.step.proofs.output.put.Goals as goal
use Rattle.step.proofs.output.put.Goals.{Else-output-count}
use Rattle.question.specs.Refusals.{answer_of}

pub returns-then-output-count : goal.returns-then-output-count
returns-then-output-count c =
    let a = c.args in
    put_full a.u.k a.u.groups a.m a.count a.output.now (omega arith)

-- there was room
room : (c : Else-output-count) → c.args.count * 24 ≤ length c.args.output.now
room c = omega arith

pub returns-in-Ok : goal.returns-in-Ok
returns-in-Ok c =
    let a = c.args in
    let told = sym c.write_message.ensures.answer ∙ ap answer_of c.in-Ok.is in
    rw c.write_message.ensures.content (put-done a.u.k a.u.groups a.m a.count a.output.now (room (goal.at.returns-in-Ok c).Else-output-count) told)

pub returns-in-Err : goal.returns-in-Err
returns-in-Err c =
    let a = c.args in
    let told = sym c.write_message.ensures.answer ∙ ap answer_of c.in-Err.is in
    rw c.write_message.ensures.content (put_refused a.u.k a.u.groups a.m a.count a.output.now (room (goal.at.returns-in-Err c).Else-output-count) told)
