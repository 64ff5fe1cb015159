use Rattle.iox_domain.proofs.Calling.{loan_adds, write_counts, drop_takes, update_counts, send_takes, retry_takes, give_up_takes}
use Rattle.iox_domain.proofs.Calling.{leave_takes}
use Rattle.iox_domain.proofs.port_laws.living.publisher_steps.Goals as goal

pub returns : goal.returns
returns g c = record {
  loan = loan_adds;
  write = write_counts;
  drop = drop_takes;
  update = update_counts _;
  send = send_takes _ _;
  retry = retry_takes _;
  give_up = give_up_takes;
  leave = leave_takes;
}
