use Rattle.iox_lanes_laws.proofs.UserHeaders as laws
use Rattle.iox_lanes_laws.proofs.in_turn.writes_keep_user_headers.Goals as goal

pub returns-clause-keeps : goal.returns-clause-keeps
returns-clause-keeps c = laws.writes_keep_user_headers

pub returns-clause-sends : goal.returns-clause-sends
returns-clause-sends c = laws.sends_begin_as_written

pub returns-clause-reads : goal.returns-clause-reads
returns-clause-reads c = laws.reads_give_what_was_written
