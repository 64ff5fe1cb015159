use Rattle.std.proofs.Common.{◌≡◌}
use Rattle.iox_line.specs.Words.{pieces_of}
use Rattle.iox_line.proofs.LeadingLemmas.{tagged_none, tagged_some}
use Rattle.iox_line.proofs.text.words.Words.next_numbered.Goals as goal

pub returns-in_err-value : goal.returns-in_err-value
returns-in_err-value c =
    let left : pieces_of c.self.inside.separator c.in-Some.text.now ≡ c.args.self.now = rw c.in-Some.is at c.self.view_is in
    rw (← left, c.from_residual.ensures) (tagged_none c.args.letter c.self.inside.separator c.in-Some.text.now c.in_err-value.ensures)

pub returns : goal.returns
returns c =
    let left : pieces_of c.self.inside.separator c.in-Some.text.now ≡ c.args.self.now = rw c.in-Some.is at c.self.view_is in
    rw (← left) (tagged_some _ _ _ _ _ c.in_ok-value.ensures)
