-- What is asked, field by field.
use Rattle.std.proofs.Common.{sym}
use Rattle.iox_describe_verdict.proofs.RequestResponseAsked.{fields}
use Rattle.iox_describe_verdict.proofs.requirement.request_response.RequestResponseRequiredPattern.asked.Goals as goal

pub returns-clause-over_the_list : goal.returns-clause-over_the_list
returns-clause-over_the_list c =
    rw (c.unwrap_or.ensures, c.unwrap_or-2.ensures, c.unwrap_or-3.ensures, c.unwrap_or-4.ensures, c.unwrap_or-5.ensures, c.unwrap_or-6.ensures, c.unwrap_or-7.ensures, c.unwrap_or-8.ensures, c.unwrap_or-9.ensures, c.unwrap_or-10.ensures, c.new-defaults.ensures)
    (sym (fields c.args.requirement.now))
