-- The log is taken, or why it is not.
use Rattle.std.proofs.Common.{ℕ, Bool, Option}
use Rattle.std.proofs.lemmas.Result.{MatchResult-at_ok}
use Rattle.lk_order.specs.Logs.{ThreadLog}
use Rattle.lk_jobs.specs.Orders.{IsBad, IsInFile}
use Rattle.lk_jobs.proofs.Shelves.{bad_beside, kept_after}
use Rattle.lk_jobs.proofs.order.logs.Taken.read.Goals as goal

pub returns-in_default : goal.returns-in_default
returns-in_default g c = λ kept.
    let here = MatchResult-at_ok
    (λ (read : ThreadLog × Option ℕ × Bool). IsInFile g.R.File.Read.remaining read.0)
    (IsBad g.R.File.Read.remaining) c.in-Ok.read c.in-Ok.is c.in_ok-read.ensures in (
      kept_after g.R.File.Read.remaining _ _ c.in-Ok.read.0 kept c.put.ensures.own here
          c.put.ensures.shelf,
      tt,
    )

pub returns : goal.returns
returns g c = λ kept.
    let here = MatchResult-at_ok
    (λ (read : ThreadLog × Option ℕ × Bool). IsInFile g.R.File.Read.remaining read.0)
    (IsBad g.R.File.Read.remaining) c.in-Ok.read c.in-Ok.is c.in_ok-read.ensures in (
      kept_after g.R.File.Read.remaining _ _ c.in-Ok.read.0 kept c.put.ensures.own here
          c.put.ensures.shelf,
      bad_beside g.R.File.Read.remaining _ c.in-Ok.read.0 c.in-Err-put.bad kept here
          c.in-Err-put.ensures.bad,
    )
