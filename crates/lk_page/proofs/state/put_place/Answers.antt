use Rattle.std.proofs.Common.{◌<◌, length, ◌∙◌, refl, arith}
use Rattle.lk_page.proofs.Threads.{own_put}
use Rattle.lk_page.proofs.state.put_place.Goals as goal

pub returns-clause-bytes : goal.returns-clause-bytes
returns-clause-bytes c =
    let bits = c.bits.ensures.value ∙ c.words.ensures.width in
    let here : c.args.thread < length c.args.machine.now.phases =
    omega (arith, c.threads.ensures, c.if-thread-threads.false) in
    own_put c.args.machine.now c.args.thread _ _ _ _ _ _ _ _ _ c.args.out.now.items _ _ here
    c.phase.ensures c.next_step.ensures c.phase_code-code.ensures.code c.due_code-due.ensures
    c.allowed_calls-calls.ensures
    (c.record_of-next.ensures.next ∙ rw (bits, c.kind.ensures) refl)
    (c.record_of-next.ensures.locked ∙ rw (bits, c.kind.ensures) refl)
    (c.record_of-next.ensures.name ∙ rw (bits, c.kind.ensures) refl)
    c.phase_code-code.ensures.number
    c.put_bytes.ensures.bytes c.put_u64.ensures.bytes
