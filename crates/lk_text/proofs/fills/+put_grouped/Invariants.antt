-- A group less at each call.
use Rattle.lk_text.proofs.fills.+put_grouped.Given as goal

abbrev pub decreases-put_grouped : goal.decreases-put_grouped
decreases-put_grouped l = l.groups
