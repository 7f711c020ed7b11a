-- Each part is what the lock says.
use Rattle.std.proofs.Common.{ap, length, ◌∙◌, ◌++◌}
use Rattle.lk_locks.specs.State.{State}
use Rattle.lk_locks.specs.Play.{holding_in, waiting_in}
use Rattle.lk_page.specs.Codes.{lock_code}
use Rattle.lk_page.specs.Layout.{holding_code, holder_list, threads_bytes}
use Rattle.lk_page.proofs.StateBytes.{state_put}
use Rattle.lk_page.proofs.state.state_bytes.Goals as goal

pub returns-clause-bytes : goal.returns-clause-bytes
returns-clause-bytes c =
    state_put c.args.moves c.args.stopped.count c.args.stopped.refused c.args.lock.now.state
    (holding_in c.args.lock.now) (waiting_in c.args.lock.now)
    c.stop_numbers.result c.as_slice-holder_slice.result.now c.as_slice-queue_slice.result.now
    c.as_slice-words.result.now
    c.new-out.result.items c.put_u32s.new.out.items c.put_u32s-2.new.out.items
    c.put_list.new.out.items c.put_list-2.new.out.items c.put_threads.new.out.items
    c.put_u64s.new.out.items c.put_zeros.new.out.items
    c.lock_code-kind.result c.threads.result c.bits-bits.result c.holder_list-code.result.0
    c.stop_numbers.ensures (c.lock_code-kind.ensures ∙ ap lock_code c.kind.ensures)
    (c.threads.ensures ∙ ap (λ (s : State). length s.phases) c.machine-machine.ensures)
    (c.bits-bits.ensures.value ∙ c.words-2.ensures.width
    ∙ ap (λ (s : State). s.bits) c.machine-machine.ensures)
    (c.holder_list-code.ensures.code ∙ ap holding_code c.holders.ensures.holding)
    (c.as_slice-holder_slice.ensures.value ∙ c.holder_list-code.ensures.list
    ∙ ap holder_list c.holders.ensures.holding)
    (c.as_slice-queue_slice.ensures.value ∙ c.queue-queue.ensures)
    (c.as_slice-words.ensures.words ∙ c.words.ensures.words
    ∙ ap (λ (s : State). s.words) c.machine-machine.ensures)
    c.new-out.ensures c.put_u32s.ensures.bytes c.put_u32s-2.ensures.bytes c.put_list.ensures.bytes
    c.put_list-2.ensures.bytes
    (c.put_threads.ensures.bytes
    ∙ ap (λ (s : State). c.put_list-2.new.out.items ++ threads_bytes s 0 64)
    c.machine-machine.ensures) c.put_u64s.ensures.bytes c.put_zeros.ensures.bytes
