-- Settings that are told to be the same are.
use Rattle.std.proofs.Common.{◌≡◌, Bool, true, false, refl, subst}
use Rattle.std.proofs.lemmas.Bool.{eqb-true, eq-eqb}
use Rattle.std.specs.Bool.{beq}
use Rattle.std.specs.Prelude.{◌==◌}
use Rattle.iox_domain.proofs.DescribeBase.CompatibleLemmas.{both, both_met, same_detail-true, same_detail-refl}
use Rattle.iox_domain.specs.DescribeBase.Compatible.{same_detail}
use Rattle.iox_domain.specs.DescribeSettings.declared.static_config.publish_subscribe.StaticConfig.{StaticConfig}
use Rattle.iox_hub_base.specs.Agreeing.{same_agreement}

beq-true : (a b : Bool) → beq a b ≡ true → a ≡ b
beq-true true true e = refl
beq-true true false e = absurd cc
beq-true false true e = absurd cc
beq-true false false e = refl

beq-itself : (a : Bool) → beq a a ≡ true
beq-itself true = refl
beq-itself false = refl

pub same-true : (a b : StaticConfig) → same_agreement a b ≡ true → a ≡ b
same-true a b e =
    let p = both (beq a.enable_safe_overflow b.enable_safe_overflow) _ e in
    let q = both (a.history_size == b.history_size) _ p.1 in
    let r = both (a.max_nodes == b.max_nodes) _ q.1 in
    let s = both (a.max_publishers == b.max_publishers) _ r.1 in
    let t = both (a.max_subscribers == b.max_subscribers) _ s.1 in
    let n = both (beq a.sequence_numbers b.sequence_numbers) _ t.1 in
    let u = both (a.subscriber_max_borrowed_samples == b.subscriber_max_borrowed_samples) _ n.1 in
    let v = both (a.subscriber_max_buffer_size == b.subscriber_max_buffer_size) _ u.1 in
    let w = both (same_detail a.types.header b.types.header) _ v.1 in
    let x = both (same_detail a.types.user_header b.types.user_header) (same_detail a.types.payload b.types.payload) w.1 in
    λ i. record {
      enable_safe_overflow = beq-true a.enable_safe_overflow b.enable_safe_overflow p.0 i;
      history_size = eqb-true a.history_size b.history_size q.0 i;
      max_nodes = eqb-true a.max_nodes b.max_nodes r.0 i;
      max_publishers = eqb-true a.max_publishers b.max_publishers s.0 i;
      max_subscribers = eqb-true a.max_subscribers b.max_subscribers t.0 i;
      sequence_numbers = beq-true a.sequence_numbers b.sequence_numbers n.0 i;
      subscriber_max_borrowed_samples = eqb-true a.subscriber_max_borrowed_samples b.subscriber_max_borrowed_samples u.0 i;
      subscriber_max_buffer_size = eqb-true a.subscriber_max_buffer_size b.subscriber_max_buffer_size v.0 i;
      types = record {
        header = same_detail-true a.types.header b.types.header w.0 i;
        user_header = same_detail-true a.types.user_header b.types.user_header x.0 i;
        payload = same_detail-true a.types.payload b.types.payload x.1 i;
      };
    }

same-itself : (a : StaticConfig) → same_agreement a a ≡ true
same-itself a =
    both_met _ _ (beq-itself a.enable_safe_overflow)
    (both_met _ _ (eq-eqb a.history_size a.history_size refl)
    (both_met _ _ (eq-eqb a.max_nodes a.max_nodes refl)
    (both_met _ _ (eq-eqb a.max_publishers a.max_publishers refl)
    (both_met _ _ (eq-eqb a.max_subscribers a.max_subscribers refl)
    (both_met _ _ (beq-itself a.sequence_numbers)
    (both_met _ _ (eq-eqb a.subscriber_max_borrowed_samples a.subscriber_max_borrowed_samples refl)
    (both_met _ _ (eq-eqb a.subscriber_max_buffer_size a.subscriber_max_buffer_size refl)
    (both_met _ _ (same_detail-refl a.types.header a.types.header refl)
    (both_met _ _ (same_detail-refl a.types.user_header a.types.user_header refl)
    (same_detail-refl a.types.payload a.types.payload refl))))))))))

pub same-refl : (a b : StaticConfig) → a ≡ b → same_agreement a b ≡ true
same-refl a b e = subst (λ (c : StaticConfig). same_agreement a c ≡ true) e (same-itself a)
