-- The waiting bytes went out, if they had to. A long text follows them, and a short one waits.
use Rattle.std.proofs.Common.{[]}
use Rattle.std.proofs.lemmas.Result.{on_err_weaker, on_ok_weaker}
use Rattle.lk_replay.proofs.Passed.{passes_on, passes_sent, passes_through, prefix_after}
use Rattle.lockreplay.proofs.sending.pass.Goals as goal

pub returns-then-text-capacity-2-clause-passed : goal.returns-then-text-capacity-2-clause-passed
returns-then-text-capacity-2-clause-passed g c =
    let waited = c.args.waiting.now.items in
    let text = c.args.text.now in
    let sent = passes_sent waited _ _ _ c.as_slice.ensures.value c.in_ok-send.ensures.written in
    rw (c.clear.ensures.items)
    (on_ok_weaker c.send-then-text-capacity-2.result
    (λ written. passes_on waited [] [] text [] _ _ _ sent (passes_through text _ _ written))
    c.send-then-text-capacity-2.ensures.written)

pub returns-then-text-capacity-2-clause-prefix : goal.returns-then-text-capacity-2-clause-prefix
returns-then-text-capacity-2-clause-prefix g c =
    let waited = c.args.waiting.now.items in
    let sent = passes_sent waited _ _ _ c.as_slice.ensures.value c.in_ok-send.ensures.written in
    on_err_weaker c.send-then-text-capacity-2.result
    (prefix_after waited [] [] c.args.text.now _ _ _ sent)
    c.send-then-text-capacity-2.ensures.prefix
