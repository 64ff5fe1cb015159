use Rattle.std.proofs.Common.{rules, refl, sym, ap, ◌≡◌, ◌==◌, ◌∙◌, Some, true, false, is_some}
use Rattle.iox_domain.specs.DomainPorts.Publishers.{connection_in}
use Rattle.iox_domain.specs.DomainPorts.Reading.{place_of}
use Rattle.iox_domain.specs.Ports.{with_both}
use Rattle.iox_domain.specs.Subscribers.{subscriber_of}
use Rattle.iox_domain.proofs.LettingGo.{releases_by, releases_nothing, releases_standing}
use Rattle.iox_domain.proofs.ports.service_ports.ServicePorts.release.Goals as goal

pub returns-then-not-give_back : goal.returns-then-not-give_back
returns-then-not-give_back g c =
    let old = c.args.self.now in
    let sample = c.args.sample in
    let port = c.in-Some.port.now in
    let place = place_of sample.slot (connection_in sample.publisher sample.index old.publishers) in
    let same : (sample.subscriber == c.args.number) ≡ true = search (rules, c.if-sample-number.false) in
    let there : subscriber_of c.args.number old.subscribers ≡ Some port = search (rules, c.in-Some.ensures.value) in
    let none : is_some place ≡ false = sym c.give_back.ensures.answer ∙ search (rules, c.if-not-give_back.true) in
    releases_by c.args.number sample old _ port false same there
    (releases_nothing c.args.number sample place old _ port c.give_back.new.self none there c.give_back.ensures.new refl)

pub returns-else-not-port : goal.returns-else-not-port
returns-else-not-port g c =
    let old = c.args.self.now in
    let sample = c.args.sample in
    let port = c.in-Some.port.now in
    let place = place_of sample.slot (connection_in sample.publisher sample.index old.publishers) in
    let same : (sample.subscriber == c.args.number) ≡ true = search (rules, c.if-sample-number.false) in
    let there : subscriber_of c.args.number old.subscribers ≡ Some port = search (rules, c.in-Some.ensures.value) in
    let some : is_some place ≡ true = sym c.give_back.ensures.answer ∙ search (rules, c.if-not-give_back.false) in
    let stands : port.stands ≡ true = search (rules, c.if-not-port.false) in
    releases_by c.args.number sample old _ port true same there
    (releases_standing c.args.number sample place old _ port c.give_back.new.self some there c.give_back.ensures.new stands
    (ap (λ held. with_both c.args.number (record port { held = held }) c.give_back.new.self old) c.saturating_sub-port.ensures))
