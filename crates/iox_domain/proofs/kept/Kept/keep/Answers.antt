use Rattle.iox_domain.proofs.Keeping.{undone_kept}
use Rattle.iox_domain.proofs.kept.Kept.keep.Goals as goal

pub returns-clause-undone : goal.returns-clause-undone
returns-clause-undone g c =
    rw (← c.self.view_is) (undone_kept c.args.number c.args.value c.self.inside.values c.insert.new.self c.insert.result
    c.insert.ensures.rises c.insert.ensures.before c.insert.ensures.ok)
