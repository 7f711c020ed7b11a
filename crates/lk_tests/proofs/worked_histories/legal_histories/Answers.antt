use Rattle.lk_tests.proofs.WorkedHistories.{ticket_legal, mcs_legal, simple_legal, fifo_legal}
use Rattle.lk_tests.proofs.WorkedHistories.{not_legal}
use Rattle.lk_tests.proofs.worked_histories.legal_histories.Goals as goal

pub returns-clause-ticket : goal.returns-clause-ticket
returns-clause-ticket c = ticket_legal

pub returns-clause-mcs : goal.returns-clause-mcs
returns-clause-mcs c = mcs_legal

pub returns-clause-simple : goal.returns-clause-simple
returns-clause-simple c = simple_legal

pub returns-clause-fifo : goal.returns-clause-fifo
returns-clause-fifo c = fifo_legal

pub returns-clause-uncalled : goal.returns-clause-uncalled
returns-clause-uncalled c = not_legal
