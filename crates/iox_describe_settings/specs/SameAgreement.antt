-- When settings, and agreements, are equal.
use Rattle.std.specs.Prelude.{◌≡◌, ◌&&◌, ℕ, Bool, true, false, List, [], ◌∷◌, Option, Some, None, nat_eq, refl}
use Rattle.std.proofs.Common.{sym, ap, ◌∙◌, subst}
use Rattle.std.proofs.lemmas.Bool.{eq-eqb, eqb-true}
use Rattle.std.specs.Bool.{Decides}
use Rattle.std.specs.Cmp.{IsEquivalence, IsPartialEquivalence, partial_equiv_from_equiv, decided, first_so, second_so}
use Rattle.std.specs.Cmp.Lexicographic.{pointwise, bytes_decides}
use Rattle.iox_describe_base.specs.declared.message_type.MessageTypeDetails.{MessageTypeDetails}
use Rattle.iox_describe_base.specs.Compatible.{same_detail}
use Rattle.iox_describe_base.specs.SameAttributes.{same_attributes, same_attributes_decides}
use Rattle.iox_describe_base.proofs.CompatibleLemmas.{same_detail-true, same_detail-refl}
use Rattle.iox_describe_settings.specs.declared.setting.SettingValue.{SettingValue}
use Rattle.iox_describe_settings.specs.declared.setting.SettingValue.TheVariants.{Switch, Number, OptionalNumber, Types}
use Rattle.iox_describe_settings.specs.declared.static_config.Settings.{Settings}
use Rattle.iox_describe_settings.specs.declared.static_config.Settings.TheVariants.{RequestResponse, PublishSubscribe, Event}
use Rattle.iox_describe_settings.specs.Agreement.{Agreement}
use Rattle.iox_describe_settings.specs.Setting.{all_same, filled, same_option, same_switch, same_types, same_value}
use Rattle.iox_describe_settings.specs.RequestResponseSettings as request_response
use Rattle.iox_describe_settings.specs.PublishSubscribeSettings as publish_subscribe
use Rattle.iox_describe_settings.specs.EventSettings as event

-- Whether both are settings of the same pattern and each setting is equal.
abbrev pub same_settings : Settings → Settings → Bool
same_settings (RequestResponse a) (RequestResponse b) = all_same request_response.value request_response.all a b
same_settings (PublishSubscribe a) (PublishSubscribe b) = all_same publish_subscribe.value publish_subscribe.all a b
same_settings (Event a) (Event b) = all_same event.value event.all a b
same_settings a b = false

-- Whether the names, hashes, settings and attributes are equal.
abbrev pub same_agreement : Agreement → Agreement → Bool
same_agreement a b =
    pointwise nat_eq a.name b.name && (pointwise nat_eq a.service_hash.digest b.service_hash.digest
    && (same_settings a.settings b.settings && same_attributes a.attributes b.attributes))

-- ---- the tests decide whether two values are equal

switches : (a b : Bool) → Decides (same_switch a b) (a ≡ b)
switches true true = (λ e. refl, λ e. refl)
switches true false = (λ e. absurd cc, λ e. absurd cc)
switches false true = (λ e. absurd cc, λ e. absurd cc)
switches false false = (λ e. refl, λ e. refl)

options : (a b : Option ℕ) → Decides (same_option a b) (a ≡ b)
options None None = (λ e. refl, λ e. refl)
options None (Some b) = (λ e. absurd cc, λ e. absurd cc)
options (Some a) None = (λ e. absurd cc, λ e. absurd cc)
options (Some a) (Some b) = (λ e. ap Some (eqb-true a b e), λ e. eq-eqb a b (let k : a ≡ b = cc in k))

types : (a b : MessageTypeDetails) → Decides (same_types a b) (a ≡ b)
types a b = (
  λ e.
      let p = same_detail-true a.header b.header
      (first_so (same_detail a.header b.header) (same_detail a.user_header b.user_header && same_detail a.payload b.payload) e) in
      let rest = second_so (same_detail a.header b.header) (same_detail a.user_header b.user_header && same_detail a.payload b.payload) e in
      let q = same_detail-true a.user_header b.user_header
      (first_so (same_detail a.user_header b.user_header) (same_detail a.payload b.payload) rest) in
      let r = same_detail-true a.payload b.payload
      (second_so (same_detail a.user_header b.user_header) (same_detail a.payload b.payload) rest) in
      λ i. record { header = p i; user_header = q i; payload = r i },
  λ e.
      let p = same_detail-refl a.header b.header (ap (λ (t : MessageTypeDetails). t.header) e) in
      let q = same_detail-refl a.user_header b.user_header (ap (λ (t : MessageTypeDetails). t.user_header) e) in
      let r = same_detail-refl a.payload b.payload (ap (λ (t : MessageTypeDetails). t.payload) e) in
      λ i. p i && (q i && r i),
)

values : (a b : SettingValue) → Decides (same_value a b) (a ≡ b)
values (Switch a) (Switch b) = (λ e. ap Switch ((switches a b).0 e), λ e. (switches a b).1 (let k : a ≡ b = cc in k))
values (Switch a) (Number b) = (λ e. absurd cc, λ e. absurd cc)
values (Switch a) (OptionalNumber b) = (λ e. absurd cc, λ e. absurd cc)
values (Switch a) (Types b) = (λ e. absurd cc, λ e. absurd cc)
values (Number a) (Switch b) = (λ e. absurd cc, λ e. absurd cc)
values (Number a) (Number b) = (λ e. ap Number (eqb-true a b e), λ e. eq-eqb a b (let k : a ≡ b = cc in k))
values (Number a) (OptionalNumber b) = (λ e. absurd cc, λ e. absurd cc)
values (Number a) (Types b) = (λ e. absurd cc, λ e. absurd cc)
values (OptionalNumber a) (Switch b) = (λ e. absurd cc, λ e. absurd cc)
values (OptionalNumber a) (Number b) = (λ e. absurd cc, λ e. absurd cc)
values (OptionalNumber a) (OptionalNumber b) = (λ e. ap OptionalNumber ((options a b).0 e), λ e. (options a b).1 (let k : a ≡ b = cc in k))
values (OptionalNumber a) (Types b) = (λ e. absurd cc, λ e. absurd cc)
values (Types a) (Switch b) = (λ e. absurd cc, λ e. absurd cc)
values (Types a) (Number b) = (λ e. absurd cc, λ e. absurd cc)
values (Types a) (OptionalNumber b) = (λ e. absurd cc, λ e. absurd cc)
values (Types a) (Types b) = (λ e. ap Types ((types a b).0 e), λ e. (types a b).1 (let k : a ≡ b = cc in k))

-- If each setting is equal in two configurations, filling from one or from the other gives the same.
fills : {S C : Type 0} (value : S → C → SettingValue) (changed : S → SettingValue → C → C) (all : List S) (a b c : C)
    → all_same value all a b ≡ true → filled value changed all a c ≡ filled value changed all b c
fills value changed [] a b c e = refl
fills value changed (s ∷ more) a b c e =
    let here = (values (value s a) (value s b)).0 (first_so (same_value (value s a) (value s b)) (all_same value more a b) e) in
    let later = second_so (same_value (value s a) (value s b)) (all_same value more a b) e in
    ap (λ v. filled value changed more a (changed s v c)) here ∙ fills value changed more a b (changed s (value s b) c) later

all_same-itself : {S C : Type 0} (value : S → C → SettingValue) (all : List S) (a : C) → all_same value all a a ≡ true
all_same-itself value [] a = refl
all_same-itself value (s ∷ more) a =
    let p = (values (value s a) (value s a)).1 refl in
    let q = all_same-itself value more a in
    λ i. p i && q i

-- Configurations whose settings are all equal are equal, if the list has all settings.
configs : {S C : Type 0} (value : S → C → SettingValue) (changed : S → SettingValue → C → C) (all : List S)
    → ((target config : C) → filled value changed all target config ≡ target)
    → (a b : C) → Decides (all_same value all a b) (a ≡ b)
configs value changed all whole a b = (
  λ e. sym (whole a a) ∙ fills value changed all a b a e ∙ whole b a,
  λ e. subst (λ c. all_same value all a c ≡ true) e (all_same-itself value all a),
)

-- The test of two settings decides whether they are equal.
pub same_settings_decides : (a b : Settings) → Decides (same_settings a b) (a ≡ b)
same_settings_decides (RequestResponse a) (RequestResponse b) =
    let d = configs request_response.value request_response.changed request_response.all (λ t c. refl) a b in
    (λ e. ap RequestResponse (d.0 e), λ e. d.1 (let k : a ≡ b = cc in k))
same_settings_decides (RequestResponse a) (PublishSubscribe b) = (λ e. absurd cc, λ e. absurd cc)
same_settings_decides (RequestResponse a) (Event b) = (λ e. absurd cc, λ e. absurd cc)
same_settings_decides (PublishSubscribe a) (RequestResponse b) = (λ e. absurd cc, λ e. absurd cc)
same_settings_decides (PublishSubscribe a) (PublishSubscribe b) =
    let d = configs publish_subscribe.value publish_subscribe.changed publish_subscribe.all (λ t c. refl) a b in
    (λ e. ap PublishSubscribe (d.0 e), λ e. d.1 (let k : a ≡ b = cc in k))
same_settings_decides (PublishSubscribe a) (Event b) = (λ e. absurd cc, λ e. absurd cc)
same_settings_decides (Event a) (RequestResponse b) = (λ e. absurd cc, λ e. absurd cc)
same_settings_decides (Event a) (PublishSubscribe b) = (λ e. absurd cc, λ e. absurd cc)
same_settings_decides (Event a) (Event b) =
    let d = configs event.value event.changed event.all (λ t c. refl) a b in
    (λ e. ap Event (d.0 e), λ e. d.1 (let k : a ≡ b = cc in k))

-- The test of two settings is an equivalence.
pub same_settings_laws : IsEquivalence same_settings
same_settings_laws = decided same_settings same_settings_decides

same_parts : (a b : Agreement) → a.name ≡ b.name → a.service_hash.digest ≡ b.service_hash.digest → a.settings ≡ b.settings
    → a.attributes ≡ b.attributes → a ≡ b
same_parts a b p q r s = λ i. record { name = p i; service_hash = record { digest = q i }; settings = r i; attributes = s i }

-- The test of two agreements decides whether they are equal.
pub same_agreement_decides : (a b : Agreement) → Decides (same_agreement a b) (a ≡ b)
same_agreement_decides a b =
    let names = bytes_decides a.name b.name in
    let hashes = bytes_decides a.service_hash.digest b.service_hash.digest in
    let settings = same_settings_decides a.settings b.settings in
    let attributes = same_attributes_decides a.attributes b.attributes in
    let last = same_settings a.settings b.settings && same_attributes a.attributes b.attributes in
    let rest = pointwise nat_eq a.service_hash.digest b.service_hash.digest && last in (
      λ e.
          let p = second_so (pointwise nat_eq a.name b.name) rest e in
          let q = second_so (pointwise nat_eq a.service_hash.digest b.service_hash.digest) last p in
          same_parts a b (names.0 (first_so (pointwise nat_eq a.name b.name) rest e))
          (hashes.0 (first_so (pointwise nat_eq a.service_hash.digest b.service_hash.digest) last p))
          (settings.0 (first_so (same_settings a.settings b.settings) (same_attributes a.attributes b.attributes) q))
          (attributes.0 (second_so (same_settings a.settings b.settings) (same_attributes a.attributes b.attributes) q)),
      λ e.
          let p = names.1 (ap (λ (x : Agreement). x.name) e) in
          let q = hashes.1 (ap (λ (x : Agreement). x.service_hash.digest) e) in
          let r = settings.1 (ap (λ (x : Agreement). x.settings) e) in
          let s = attributes.1 (ap (λ (x : Agreement). x.attributes) e) in
          λ i. p i && (q i && (r i && s i)),
    )

-- The test of two agreements is symmetric and transitive.
pub same_agreement_laws : IsPartialEquivalence same_agreement
same_agreement_laws = partial_equiv_from_equiv (decided same_agreement same_agreement_decides)
