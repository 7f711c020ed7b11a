-- The text that is sent is that of the reports of the files' texts.
use Rattle.std.proofs.Common.{◌≡◌, ◌≢◌, ◌∙◌, ℕ, List, Vec, Global, Option, Err, length, map, ap}
use Rattle.std.proofs.Common.{refl, subst, sym}
use Rattle.std.proofs.lemmas.Simd.{map-map}
use Rattle.std.specs.Io.KnownBytes.{Keeps}
use Rattle.lk_replay.specs.declared.devices.RunFault.{RunFault}
use Rattle.lk_replay.specs.declared.devices.RunFault.TheVariants.{Read, Write, OutOfMemory}
use Rattle.lk_replay.specs.Devices.{AppendsPrefix, IfErrOf}
use Rattle.lk_replay.specs.Report.{report_text}
use Rattle.lk_workers.specs.Batch.{batch_text_of}
use Rattle.lk_workers.specs.invariants.Collected.{bytes_of}
use Rattle.lockreplay.specs.Jobs.{EndsBatch}
use Rattle.lockreplay.specs.Faults.{fault_from}

-- the reports, if the slices that were handed on are the lists
pub same_reports : (texts given reports lent : List (Vec ℕ Global))
    → given ≡ texts → lent ≡ reports → bytes_of reports ≡ map (λ t. report_text t.items) given
    → bytes_of lent ≡ map report_text (bytes_of texts)
same_reports texts given reports lent as_texts as_reports replayed =
    ap bytes_of as_reports ∙ replayed ∙ ap (map (λ t. report_text t.items)) as_texts
    ∙ sym (map-map report_text (λ t. t.items) texts)

-- the end of a batch whose sending ends with this fault
pub cut_batch : (fault : RunFault) (texts : List (List ℕ)) (reports : List (List ℕ)) (count : ℕ)
    (old new : Option (List ℕ))
    → length texts ≡ count → reports ≡ map report_text texts
    → IfErrOf {T = Unit {0}} (Err fault) Write (AppendsPrefix old new (batch_text_of reports))
    → IfErrOf {T = Unit {0}} (Err fault) OutOfMemory (Keeps old new) → fault ≢ Read
    → EndsBatch count old new (Err (fault_from fault))
cut_batch Read texts reports count old new size are prefix no_memory unread = absurd (unread refl)
cut_batch Write texts reports count old new size are prefix no_memory unread = (
  texts,
  size,
  subst (λ (rs : List (List ℕ)). AppendsPrefix old new (batch_text_of rs)) are (prefix refl),
)
cut_batch OutOfMemory texts reports count old new size are prefix no_memory unread =
    (tt, no_memory refl)
