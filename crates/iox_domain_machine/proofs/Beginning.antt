-- A domain without ports represents a service that nobody uses yet.
use Rattle.std.proofs.Common.{None, refl, sym, ap, ◌∙◌, arith}
use Rattle.std.proofs.lemmas.List.Elements.{All-nil}
use Rattle.iox_domain.specs.Container.declared.container.Member.{Member}
use Rattle.iox_domain.specs.DomainPorts.declared.publisher_entry.PublisherEntry.{PublisherEntry}
use Rattle.iox_domain.specs.DomainPorts.declared.subscriber_entry.SubscriberEntry.{SubscriberEntry}
use Rattle.iox_domain_machine.specs.Laws.{NewStands}
use Rattle.iox_domain_machine.proofs.Found.{never_some, never_true, same_at, mapped_none}

pub new_stands : (T U : Type 0) → NewStands T U
new_stands T U buffer number name settings = record {
  sizes = refl;
  publisher_list = ap (λ places. record { places = places; changes = 0 }) (sym (mapped_none (λ
      (member : Member PublisherEntry). 0) settings.max_publishers));
  subscriber_list = ap (λ places. record { places = places; changes = 0 }) (sym (mapped_none (λ
      (member : Member SubscriberEntry). 0) settings.max_subscribers));
  named_publishers = record {
    known = λ number off. absurd (off refl);
    apart = λ one other off same. absurd
        (off refl);
    each = λ name is. never_true is;
  };
  named_subscribers = record {
    known = λ number off. absurd (off refl);
    apart = λ one other off same. absurd
        (off refl);
    each = λ name is. never_true is;
  };
  unnamed = λ number above. (refl, refl);
  publishers = λ number port is. never_some port is;
  listed = λ number port is. never_some port is;
  present = λ place member is. never_some member (sym (same_at None settings.max_publishers place) ∙ is);
  gone_publishers = λ number publisher gone is. never_some publisher is;
  numbered = λ number port is. never_some port is;
  once = λ number. omega arith;
  once_subscribers = λ number. omega arith;
  keyed = λ number port is. never_some port is;
  subscribers = λ number port is. never_some port is;
  gone_subscribers = λ number subscriber gone is. never_some subscriber is;
  listed_subscribers = λ number port is. never_some port is;
  present_subscribers = λ place member is. never_some member (sym (same_at None settings.max_subscribers place) ∙ is);
  sized = λ place member is. never_some member (sym (same_at None settings.max_subscribers place) ∙ is);
  joined = λ one other is. never_true is;
  loans = record { same = refl; once = λ number. omega arith; all = λ publisher. refl };
  samples = record {
    same = refl;
    once = λ number. omega arith;
    all = λ publisher index. refl;
    whose = All-nil _;
    counted = λ subscriber. refl;
  };
}
