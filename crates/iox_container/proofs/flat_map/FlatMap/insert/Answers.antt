use Rattle.std.proofs.Common.{◌≡◌, true, false, sym, ◌∙◌}
use Rattle.iox_container.specs.PairTable.{place_of}
use Rattle.iox_container.proofs.PairLaws.{found_after, others_after}
use Rattle.iox_container.proofs.Pairs.{KeysDiffer-inserted, none_from_no_value}
use Rattle.iox_container.proofs.flat_map.FlatMap.insert.Goals as goal

pub invariant_of-self : goal.invariant_of-self
invariant_of-self g c =
    let t = c.self.inside.map in
    let absent = none_from_no_value (place_of g.K.PartialEq.eq c.args.key t) _ (rw (← c.self.view_is) at c.contains.ensures)
    c.if-contains.false in
    KeysDiffer-inserted g.K.PartialEq.eq g.met.K.PartialEq.laws.symm t c.insert.new.self c.args.key c.args.value c.insert.result
    c.self.invariant absent
    c.insert.ensures.some c.insert.ensures.within c.insert.ensures.none

pub returns-clause-found : goal.returns-clause-found
returns-clause-found g c =
    let t = c.self.inside.map in
    let absent = none_from_no_value (place_of g.K.PartialEq.eq c.args.key t) _ (rw (← c.self.view_is) at c.contains.ensures)
    c.if-contains.false in
    let differ = KeysDiffer-inserted g.K.PartialEq.eq g.met.K.PartialEq.laws.symm t c.insert.new.self c.args.key c.args.value
    c.insert.result c.self.invariant absent c.insert.ensures.some c.insert.ensures.within c.insert.ensures.none in
    found_after g.K.PartialEq.eq g.met.K.Eq.laws t c.insert.new.self c.args.key c.args.value c.insert.result differ
    c.insert.ensures.some c.insert.ensures.within c.insert.ensures.key
    (λ none. let is : c.is_full.result ≡ true = c.is_full.ensures.none_free.1 (rw (← c.self.view_is) none) in
    let bad : true ≡ false = sym is ∙ c.if-is_full.false in absurd (cc))

pub returns-clause-others : goal.returns-clause-others
returns-clause-others g c other apart =
    let t = c.self.inside.map in
    let absent = none_from_no_value (place_of g.K.PartialEq.eq c.args.key t) _ (rw (← c.self.view_is) at c.contains.ensures)
    c.if-contains.false in
    let differ = KeysDiffer-inserted g.K.PartialEq.eq g.met.K.PartialEq.laws.symm t c.insert.new.self c.args.key c.args.value
    c.insert.result c.self.invariant absent c.insert.ensures.some c.insert.ensures.within c.insert.ensures.none in
    rw (← c.self.view_is) (others_after g.K.PartialEq.eq g.met.K.Eq.laws t c.insert.new.self c.args.key other c.args.value
    c.insert.result differ c.insert.ensures.some c.insert.ensures.within c.insert.ensures.free c.insert.ensures.key
    (λ none. let is : c.is_full.result ≡ true = c.is_full.ensures.none_free.1 (rw (← c.self.view_is) none) in
    let bad : true ≡ false = sym is ∙ c.if-is_full.false in absurd (cc)) apart)
