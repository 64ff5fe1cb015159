-- Words that are read as a service name it, and what names it is read.
use Rattle.std.proofs.Common.{◌≡◌, ℕ, Bool, true, false, List, [], ◌∷◌, ◌++◌, Option, None, Some, refl, cond, sym, ap, ◌∙◌, subst}
use Rattle.std.specs.Option.{option_map}
use Rattle.std.proofs.lemmas.List.{append_assoc}
use Rattle.iox_command.specs.DescribeBase.declared.pattern.MessagingPattern.{MessagingPattern}
use Rattle.iox_command.specs.DescribeBase.declared.pattern.MessagingPattern.TheVariants as pattern
use Rattle.iox_command.specs.declared.service.ServiceOptions.{ServiceOptions}
use Rattle.iox_command.specs.declared.service.ServiceOptions.TheVariants as options
use Rattle.iox_command.specs.Patterns.{pattern_of}
use Rattle.iox_line.specs.Numbers.{IsNumber, tag, tagged}
use Rattle.iox_line.specs.Words.{begins, front, back}
use Rattle.iox_line.specs.Visible.{is_visible_text}
use Rattle.iox_line.specs.Options.{AnyOrder}
use Rattle.iox_line.proofs.NumberLemmas.{tagged_some, tagged_own}
use Rattle.iox_line.proofs.ChoiceLemmas.{choice_some, map_some}
use Rattle.iox_line.proofs.VisibleLemmas.{visible_sound, visible_complete}
use Rattle.iox_line.proofs.MarkLemmas.{Unmarked, starts, cut_own, cut_parts, all_anyhow, options_unmarked}
use Rattle.iox_line.specs.Services.{pattern_word, service_words, ServiceFits, Names}
use Rattle.iox_line.specs.declared.services.service.NamedService.{NamedService}
use Rattle.iox_line.specs.ServicesReading.{patterns, pattern_named, name_of, named_service, publish_subscribe_of, event_of}
use Rattle.iox_line.specs.ServicesReading.{request_response_of, options_of, three_parts, service_of}
use Rattle.iox_line.proofs.ServiceOptionLemmas.{publish_subscribe_some, publish_subscribe_own, event_some, event_own}
use Rattle.iox_line.proofs.ServiceOptionLemmas.{request_response_some, request_response_own}
use Rattle.iox_line.proofs.Shorthands.{IsName, event_keys, event_values, publish_subscribe_keys, publish_subscribe_values}
use Rattle.iox_line.proofs.Shorthands.{request_response_keys, request_response_values}

name_at : (w n : List ℕ) (t : Bool) → is_visible_text 1 255 w ≡ t → cond t (Some w) None ≡ Some n → IsName n × (w ≡ n)
name_at w n true e h = let same_name : w ≡ n = cc in (subst IsName same_name (visible_sound 1 255 w e), same_name)
name_at w n false e h = cc

-- a word that is read as a name is one
pub name_some : (w n : List ℕ) → name_of w ≡ Some n → IsName n × (w ≡ n)
name_some w n h = name_at w n (is_visible_text 1 255 w) refl h

-- a name is read from itself
pub name_own : (n : List ℕ) → IsName n → name_of n ≡ Some n
name_own n g = ap (λ t. cond t (Some n) None) (visible_complete 1 255 n g)

-- a word that is read as a pattern writes it
pub pattern_some : (w : List ℕ) (p : MessagingPattern) → pattern_named w ≡ Some p → w ≡ pattern_word p
pattern_some w p h = choice_some pattern_word patterns w p (refl, (refl, (refl, tt))) h

-- a pattern is read from what writes it
pub pattern_own : (p : MessagingPattern) → pattern_named (pattern_word p) ≡ Some p
pattern_own pattern.PublishSubscribe = refl
pattern_own pattern.Event = refl
pattern_own pattern.RequestResponse = refl

-- words that are read as options of a pattern write options of this pattern
pub options_some : (kind : MessagingPattern) (ws : List (List ℕ)) (o : ServiceOptions) → options_of kind ws ≡ Some o → ServiceFits o
    × AnyOrder ws (service_words o) × (kind ≡ pattern_of o)
options_some pattern.PublishSubscribe ws o h =
    let m = map_some (λ q. options.PublishSubscribe q) (publish_subscribe_of ws) o h in
    let s = publish_subscribe_some ws m.0 m.1 in
    subst (λ q. ServiceFits q × AnyOrder ws (service_words q) × (pattern.PublishSubscribe ≡ pattern_of q)) m.2 (s.0, s.1, refl)
options_some pattern.Event ws o h =
    let m = map_some (λ q. options.Event q) (event_of ws) o h in
    let s = event_some ws m.0 m.1 in
    subst (λ q. ServiceFits q × AnyOrder ws (service_words q) × (pattern.Event ≡ pattern_of q)) m.2 (s.0, s.1, refl)
options_some pattern.RequestResponse ws o h =
    let m = map_some (λ q. options.RequestResponse q) (request_response_of ws) o h in
    let s = request_response_some ws m.0 m.1 in
    subst (λ q. ServiceFits q × AnyOrder ws (service_words q) × (pattern.RequestResponse ≡ pattern_of q)) m.2 (s.0, s.1, refl)

-- options are read from words that write them, in any order
pub options_own : (ws : List (List ℕ)) (o : ServiceOptions) → ServiceFits o → AnyOrder ws (service_words o)
    → options_of (pattern_of o) ws ≡ Some o
options_own ws (options.PublishSubscribe o) f w = ap (option_map (λ q. options.PublishSubscribe q)) (publish_subscribe_own ws o f w)
options_own ws (options.Event o) f w = ap (option_map (λ q. options.Event q)) (event_own ws o f w)
options_own ws (options.RequestResponse o) f w = ap (option_map (λ q. options.RequestResponse q)) (request_response_own ws o f w)

three_some : (x : Option ℕ) (y : Option MessagingPattern) (z : Option (List ℕ)) (ws : List (List ℕ)) (p : NamedService)
    → three_parts x y z ws ≡ Some p
    → (kind : MessagingPattern) × (x ≡ Some p.node) × (y ≡ Some kind) × (z ≡ Some p.name)
    × (options_of kind (front 64 (front 124 ws)) ≡ Some p.options)
    × (back 64 (front 124 ws) ≡ p.attributes) × (back 124 ws ≡ p.lists)
three_some None y z ws p h = cc
three_some (Some n) None z ws p h = cc
three_some (Some n) (Some k) None ws p h = cc
three_some (Some n) (Some k) (Some a) ws p h =
    let m = map_some (λ o. named_service n a o (back 64 (front 124 ws)) (back 124 ws)) (options_of k (front 64 (front 124 ws))) p h in (
      k,
      ap (λ q. Some q.node) m.2,
      refl,
      ap (λ q. Some q.name) m.2,
      m.1 ∙ ap (λ q. Some q.options) m.2,
      ap (λ q. q.attributes) m.2,
      ap
          (λ q. q.lists) m.2,
    )

parted : (ws attributes lists : List (List ℕ)) → back 64 (front 124 ws) ≡ attributes → back 124 ws ≡ lists
    → ws ≡ front 64 (front 124 ws) ++ (attributes ++ lists)
parted ws attributes lists a l =
    sym (ap (λ x. front 64 (front 124 ws) ++ (x ++ lists)) (sym a) ∙ ap (λ x. front 64 (front 124 ws) ++ (back 64 (front 124 ws) ++ x))
    (sym l)
    ∙ sym (append_assoc (front 64 (front 124 ws)) (back 64 (front 124 ws)) (back 124 ws)) ∙ ap (λ x. x ++ back 124 ws)
    (cut_parts 64 (front 124 ws)) ∙ cut_parts 124 ws)

-- words that are read as a service name it
pub service_some : (ws : List (List ℕ)) (p : NamedService) → service_of ws ≡ Some p
    → (IsNumber p.node × IsName p.name × ServiceFits p.options) × Names p.node p.name p.options p.attributes p.lists ws
service_some [] p h = cc
service_some (w ∷ []) p h = cc
service_some (w ∷ v ∷ []) p h = cc
service_some (w ∷ v ∷ u ∷ ws) p h =
    let t = three_some (tagged 110 w) (pattern_named v) (name_of u) ws p h in
    let n = tagged_some 110 w p.node t.1 in
    let k = pattern_some v t.0 t.2 in
    let a = name_some u p.name t.3 in
    let o = options_some t.0 (front 64 (front 124 ws)) p.options t.4 in
    let rest = front 64 (front 124 ws) ++ (p.attributes ++ p.lists) in (
      (n.0, a.0, o.0),
      (
        front 64 (front 124 ws),
        o.1,
        ap (λ x. w ∷ v ∷ u ∷ x) (parted ws p.attributes p.lists t.5 t.6) ∙ ap
            (λ x. x ∷ v ∷ u ∷ rest) n.1 ∙ ap (λ x. tag 110 p.node ∷ x ∷ u ∷ rest) (k ∙ ap pattern_word o.2) ∙ ap
            (λ x. tag 110 p.node ∷ pattern_word (pattern_of p.options) ∷ x ∷ rest) a.1,
      ),
    )

unmarked_at : (o : ServiceOptions) → Unmarked 64 (service_words o)
unmarked_at (options.PublishSubscribe o) = options_unmarked 64 publish_subscribe_keys (publish_subscribe_values o) refl
unmarked_at (options.Event o) = options_unmarked 64 event_keys (event_values o) refl
unmarked_at (options.RequestResponse o) = options_unmarked 64 request_response_keys (request_response_values o) refl

unmarked_bar : (o : ServiceOptions) → Unmarked 124 (service_words o)
unmarked_bar (options.PublishSubscribe o) = options_unmarked 124 publish_subscribe_keys (publish_subscribe_values o) refl
unmarked_bar (options.Event o) = options_unmarked 124 event_keys (event_values o) refl
unmarked_bar (options.RequestResponse o) = options_unmarked 124 request_response_keys (request_response_values o) refl

unmarked_both : (xs ys : List (List ℕ)) → Unmarked 124 xs → Unmarked 124 ys → Unmarked 124 (xs ++ ys)
unmarked_both [] ys x y = y
unmarked_both (w ∷ ws) ys x y = (x.0, unmarked_both ws ys x.1 y)

-- where options, attributes and lists stand one after the other, they are told apart
parts_own : (o : ServiceOptions) (chosen attributes lists : List (List ℕ)) → AnyOrder chosen (service_words o) → Unmarked 124 attributes
    → starts 64 attributes ≡ true → starts 124 lists ≡ true
    → (front 64 (front 124 (chosen ++ (attributes ++ lists))) ≡ chosen)
    × (back 64 (front 124 (chosen ++ (attributes ++ lists))) ≡ attributes) × (back 124 (chosen ++ (attributes ++ lists)) ≡ lists)
parts_own o chosen attributes lists w u s t =
    let at = all_anyhow (λ x. begins 64 x ≡ false) chosen (service_words o) w (unmarked_at o) in
    let bar = all_anyhow (λ x. begins 124 x ≡ false) chosen (service_words o) w (unmarked_bar o) in
    let outer = cut_own 124 (chosen ++ attributes) lists (unmarked_both chosen attributes bar u) t in
    let inner = cut_own 64 chosen attributes at s in
    let same : chosen ++ (attributes ++ lists) ≡ (chosen ++ attributes) ++ lists = sym (append_assoc chosen attributes lists) in
    let before : front 124 (chosen ++ (attributes ++ lists)) ≡ chosen ++ attributes = ap (λ x. front 124 x) same ∙ outer.0 in
    (ap (λ x. front 64 x) before ∙ inner.0, ap (λ x. back 64 x) before ∙ inner.1, ap (λ x. back 124 x) same ∙ outer.1)

-- a service is read from words that name it
pub service_own : (ws attributes lists : List (List ℕ)) (node : ℕ) (name : List ℕ) (o : ServiceOptions) → IsNumber node → IsName name
    → ServiceFits o → Unmarked 124 attributes → starts 64 attributes ≡ true → starts 124 lists ≡ true
    → Names node name o attributes lists ws → service_of ws ≡ Some (named_service node name o attributes lists)
service_own ws attributes lists node name o n a f u s t w =
    let rest = w.0 ++ (attributes ++ lists) in
    let p = parts_own o w.0 attributes lists w.1 u s t in
    ap service_of w.2
    ∙ ap (λ x. three_parts x (pattern_named (pattern_word (pattern_of o))) (name_of name) rest) (tagged_own 110 node n)
    ∙ ap (λ x. three_parts (Some node) x (name_of name) rest) (pattern_own (pattern_of o))
    ∙ ap (λ x. three_parts (Some node) (Some (pattern_of o)) x rest) (name_own name a)
    ∙ ap (λ x. option_map (λ q. named_service node name q (back 64 (front 124 rest)) (back 124 rest)) (options_of (pattern_of o) x)) p.0
    ∙ ap (option_map (λ q. named_service node name q (back 64 (front 124 rest)) (back 124 rest))) (options_own w.0 o f w.1)
    ∙ ap (λ x. Some (named_service node name o x (back 124 rest))) p.1
    ∙ ap (λ x. Some (named_service node name o attributes x)) p.2
