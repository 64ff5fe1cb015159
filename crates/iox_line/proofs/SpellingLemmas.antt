-- Words that are read as attributes write them, and what writes them is read.
use Rattle.std.proofs.Common.{◌≡◌, ℕ, ◌≤◌, ◌==◌, Bool, true, false, not, ◌&&◌, nat_le, List, [], ◌∷◌, ◌++◌, Option, None, Some, refl}
use Rattle.std.proofs.Common.{cond, ap, ◌∙◌, subst, length, map, eqb-true}
use Rattle.std.specs.Prelude.{filter}
use Rattle.std.proofs.lemmas.List.Folds.{list_all-append}
use Rattle.iox_describe_base.specs.declared.attribute.Attribute.{Attribute}
use Rattle.iox_describe_base.specs.Attributes.{attribute, Required, required}
use Rattle.std.specs.Str.{byte}
use Rattle.iox_line.specs.Words.{lacks, has_no_space, before, beyond, begins}
use Rattle.iox_line.specs.Options.{after}
use Rattle.iox_line.specs.Visible.{IsVisibleText, is_visible_text}
use Rattle.iox_line.specs.Memory.{prepend}
use Rattle.iox_line.proofs.WordLemmas.{whole, whole_text, before-separated, beyond-separated, before-alone, beyond-alone, before_lacks}
use Rattle.iox_line.proofs.MarkLemmas.{Unmarked, starts}
use Rattle.iox_line.proofs.AfterLemmas.{after_some, and_left, and_right}
use Rattle.iox_line.proofs.VisibleLemmas.{at_most, at_most_own, visible_sound, visible_complete, visible_no_space, both_true}
use Rattle.iox_line.specs.Attributes.{pair_word, IsKey, IsPair, Requires}
use Rattle.iox_line.specs.AttributesReading.{pair_parts, pair_in, pair_of, key_parts, key_in, key_of, pairs_of, require, requirements_of}
use Rattle.iox_line.specs.AttributesReading.{few_pairs, specifier_of, few_requirements, verifier_of}
use Rattle.iox_line.proofs.Shorthands.{AllOf, AreWords, Defines, SpecifierFits, VerifierFits, key_word}

-- one word

limits_at : (key value : List ℕ) (a : Attribute) (t : Bool) → (is_visible_text 1 64 key && is_visible_text 0 256 value) ≡ t
    → cond t (Some (attribute key value)) None ≡ Some a
    → (IsVisibleText 1 64 key × IsVisibleText 0 256 value) × (attribute key value ≡ a)
limits_at key value a true e h =
    let same : attribute key value ≡ a = cc in (
      (
        visible_sound 1 64 key (and_left (is_visible_text 1 64 key) (is_visible_text 0 256 value) e),
        visible_sound 0 256 value
            (and_right (is_visible_text 1 64 key) (is_visible_text 0 256 value) e),
      ),
      same,
    )
limits_at key value a false e h = cc

pair_at : (text key : List ℕ) (value : Option (List ℕ)) (a : Attribute) → lacks 61 key ≡ true → text ≡ whole 61 key value
    → pair_parts key value ≡ Some a → IsPair a × (64 ∷ text ≡ pair_word a)
pair_at text key None a l w h = cc
pair_at text key (Some value) a l w h =
    let s = limits_at key value a (is_visible_text 1 64 key && is_visible_text 0 256 value) refl h in
    subst (λ b. IsPair b × (64 ∷ text ≡ pair_word b)) s.1 (((s.0.0, l), s.0.1), ap (λ t. 64 ∷ t) w)

pair_from : (w : List ℕ) (a : Attribute) (o : Option (List ℕ)) → after (64 ∷ []) w ≡ o → pair_in o ≡ Some a → IsPair a × (w ≡ pair_word a)
pair_from w a None e h = cc
pair_from w a (Some text) e h =
    let r = pair_at text (before 61 text) (beyond 61 text) a (before_lacks 61 text) (whole_text 61 text) h in
    (r.0, after_some (64 ∷ []) w text e ∙ r.1)

-- a word that is read as a pair writes it
pub pair_some : (w : List ℕ) (a : Attribute) → pair_of w ≡ Some a → IsPair a × (w ≡ pair_word a)
pair_some w a h = pair_from w a (after (64 ∷ []) w) refl h

-- a pair is read from the word that writes it
pub pair_own : (a : Attribute) → IsPair a → pair_of (pair_word a) ≡ Some a
pair_own a p =
    ap (λ k. pair_parts k (beyond 61 (a.key ++ 61 ∷ a.value))) (before-separated 61 a.key a.value p.0.1)
    ∙ ap (λ o. pair_parts a.key o) (beyond-separated 61 a.key a.value p.0.1)
    ∙ ap (λ t. cond t (Some a) None) (both_true (is_visible_text 1 64 a.key) (is_visible_text 0 256 a.value)
    (visible_complete 1 64 a.key p.0.0) (visible_complete 0 256 a.value p.1))

key_limits : (text k : List ℕ) (t : Bool) → is_visible_text 1 64 text ≡ t → cond t (Some text) None ≡ Some k → IsVisibleText 1 64 text
    × (text ≡ k)
key_limits text k true e h = let same : text ≡ k = cc in (visible_sound 1 64 text e, same)
key_limits text k false e h = cc

key_at : (text key k : List ℕ) (value : Option (List ℕ)) → lacks 61 key ≡ true → text ≡ whole 61 key value
    → key_parts key value ≡ Some k → IsKey k × (64 ∷ text ≡ key_word k)
key_at text key k None l w h =
    let s = key_limits key k (is_visible_text 1 64 key) refl h in
    subst (λ b. IsKey b × (64 ∷ text ≡ key_word b)) s.1 ((s.0, l), ap (λ t. 64 ∷ t) w)
key_at text key k (Some value) l w h = cc

key_from : (w k : List ℕ) (o : Option (List ℕ)) → after (64 ∷ []) w ≡ o → key_in o ≡ Some k → IsKey k × (w ≡ key_word k)
key_from w k None e h = cc
key_from w k (Some text) e h =
    let r = key_at text (before 61 text) k (beyond 61 text) (before_lacks 61 text) (whole_text 61 text) h in
    (r.0, after_some (64 ∷ []) w text e ∙ r.1)

-- a word that is read as a key writes it
pub key_some : (w k : List ℕ) → key_of w ≡ Some k → IsKey k × (w ≡ key_word k)
key_some w k h = key_from w k (after (64 ∷ []) w) refl h

-- a key is read from the word that writes it, and no pair is
pub key_own : (k : List ℕ) → IsKey k → (key_of (key_word k) ≡ Some k) × (pair_of (key_word k) ≡ None)
key_own k p = (
  ap (λ l. key_parts l (beyond 61 k)) (before-alone 61 k p.1) ∙ ap (λ o. key_parts k o) (beyond-alone 61 k p.1) ∙ ap
      (λ t. cond t (Some k) None) (visible_complete 1 64 k p.0),
  ap (λ o. pair_parts (before 61 k) o) (beyond-alone 61 k p.1),
)

-- pairs

prepend_some : {A : Type 0} (x : Option A) (y : Option (List A)) (l : List A) → prepend x y ≡ Some l → (a : A) × (rest : List A)
    × (x ≡ Some a) × (y ≡ Some rest) × (a ∷ rest ≡ l)
prepend_some None y l h = cc
prepend_some (Some a) None l h = cc
prepend_some (Some a) (Some rest) l h = (a, rest, refl, refl, cc)

pairs_some : (ws : List (List ℕ)) (ps : List Attribute) → pairs_of ws ≡ Some ps → AllOf IsPair ps × Defines ps ws
pairs_some [] ps h = let same : [] ≡ ps = cc in subst (λ l. AllOf IsPair l × Defines l []) same (tt, refl)
pairs_some (w ∷ ws) ps h =
    let r = prepend_some (pair_of w) (pairs_of ws) ps h in
    let one = pair_some w r.0 r.2 in
    let rest = pairs_some ws r.1 r.3 in
    subst (λ l. AllOf IsPair l × Defines l (w ∷ ws)) r.4 ((one.0, rest.0), ap (λ x. x ∷ ws) one.1 ∙ ap (λ l. pair_word r.0 ∷ l) rest.1)

pairs_own : (ps : List Attribute) → AllOf IsPair ps → pairs_of (map pair_word ps) ≡ Some ps
pairs_own [] f = refl
pairs_own (a ∷ ps) f = ap (λ o. prepend o (pairs_of (map pair_word ps))) (pair_own a f.0) ∙ ap (λ o. prepend (Some a) o) (pairs_own ps f.1)

few_at : (pairs ps : List Attribute) (t : Bool) → nat_le (length pairs) 8 ≡ t → cond t (Some pairs) None ≡ Some ps → (length pairs ≤ 8)
    × (pairs ≡ ps)
few_at pairs ps true e h = let same : pairs ≡ ps = cc in (at_most (length pairs) 8 e, same)
few_at pairs ps false e h = cc

few_some : (o : Option (List Attribute)) (ps : List Attribute) → few_pairs o ≡ Some ps → (length ps ≤ 8) × (o ≡ Some ps)
few_some None ps h = cc
few_some (Some pairs) ps h =
    let s = few_at pairs ps (nat_le (length pairs) 8) refl h in
    subst (λ l. (length l ≤ 8) × (Some pairs ≡ Some l)) s.1 (s.0, refl)

-- words that are read as attributes define them
pub specifier_some : (ws : List (List ℕ)) (ps : List Attribute) → specifier_of ws ≡ Some ps → SpecifierFits ps × Defines ps ws
specifier_some ws ps h =
    let s = few_some (pairs_of ws) ps h in
    let r = pairs_some ws ps s.1 in
    ((s.0, r.0), r.1)

-- attributes are read from the words that define them
pub specifier_own : (ws : List (List ℕ)) (ps : List Attribute) → SpecifierFits ps → Defines ps ws → specifier_of ws ≡ Some ps
specifier_own ws ps f d =
    ap specifier_of d ∙ ap few_pairs (pairs_own ps f.1) ∙ ap (λ t. cond t (Some ps) None) (at_most_own (length ps) 8 f.0)

-- requirements

-- whether a word has no =
abbrev lone : List ℕ → Bool
lone word = lacks (byte "=") word

-- the word of a pair has one
pair_equals : (a : Attribute) → IsPair a → lone (pair_word a) ≡ false
pair_equals a p = list_all-append (λ b. not (b == 61)) a.key (61 ∷ a.value) ∙ ap (λ t. t && false) p.0.1

key_equals : (k : List ℕ) → IsKey k → lone (key_word k) ≡ true
key_equals k p = p.1

-- with a pair in front the requirements are written with its word in front
pair_front : (w : List ℕ) (ws : List (List ℕ)) (a : Attribute) (r : Required) → IsPair a → w ≡ pair_word a → Requires r ws
    → Requires (required (a ∷ r.pairs) r.keys) (w ∷ ws)
pair_front w ws a r p e q =
    let t : lone w ≡ false = ap lone e ∙ pair_equals a p in (
      ap (λ b. cond (not b) (w ∷ filter (λ v. not (lone v)) ws) (filter (λ v. not (lone v)) ws)) t
          ∙ ap (λ x. x ∷ filter (λ v. not (lone v)) ws) e ∙ ap (λ l. pair_word a ∷ l) q.0,
      ap (λ b. cond b (w ∷ filter lone ws) (filter lone ws)) t ∙ q.1,
    )

key_front : (w : List ℕ) (ws : List (List ℕ)) (k : List ℕ) (r : Required) → IsKey k → w ≡ key_word k → Requires r ws
    → Requires (required r.pairs (k ∷ r.keys)) (w ∷ ws)
key_front w ws k r p e q =
    let t : lone w ≡ true = ap lone e ∙ key_equals k p in (
      ap (λ b. cond (not b) (w ∷ filter (λ v. not (lone v)) ws) (filter (λ v. not (lone v)) ws)) t ∙ q.0,
      ap (λ b. cond b (w ∷ filter lone ws) (filter lone ws)) t ∙ ap
          (λ x. x ∷ filter lone ws) e ∙ ap (λ l. key_word k ∷ l) q.1,
    )

-- pairs and keys, each within the limits
abbrev AreFit : Required → Type 0
AreFit r = AllOf IsPair r.pairs × AllOf IsKey r.keys

require_at : (w : List ℕ) (ws : List (List ℕ)) (r : Required) (x : Option Attribute) (y : Option (List ℕ)) (z : Option Required)
    → pair_of w ≡ x → key_of w ≡ y
    → ((q : Required) → z ≡ Some q → AreFit q × Requires q ws) → require x y z ≡ Some r → AreFit r × Requires r (w ∷ ws)
require_at w ws r (Some a) y None e f more h = cc
require_at w ws r (Some a) y (Some q) e f more h =
    let same : required (a ∷ q.pairs) q.keys ≡ r = cc in
    let one = pair_some w a e in
    let rest = more q refl in
    subst (λ s. AreFit s × Requires s (w ∷ ws)) same (((one.0, rest.0.0), rest.0.1), pair_front w ws a q one.0 one.1 rest.1)
require_at w ws r None None z e f more h = cc
require_at w ws r None (Some k) None e f more h = cc
require_at w ws r None (Some k) (Some q) e f more h =
    let same : required q.pairs (k ∷ q.keys) ≡ r = cc in
    let one = key_some w k f in
    let rest = more q refl in
    subst (λ s. AreFit s × Requires s (w ∷ ws)) same ((rest.0.0, (one.0, rest.0.1)), key_front w ws k q one.0 one.1 rest.1)

requirements_some : (ws : List (List ℕ)) (r : Required) → requirements_of ws ≡ Some r → AreFit r × Requires r ws
requirements_some [] r h = let same : required [] [] ≡ r = cc in subst (λ s. AreFit s × Requires s []) same ((tt, tt), (refl, refl))
requirements_some (w ∷ ws) r h = require_at w ws r (pair_of w) (key_of w) (requirements_of ws) refl refl (requirements_some ws) h

no_pairs : (ps : List Attribute) → [] ≡ map pair_word ps → [] ≡ ps
no_pairs [] h = refl
no_pairs (a ∷ ps) h = cc

no_keys : (ks : List (List ℕ)) → [] ≡ map key_word ks → [] ≡ ks
no_keys [] h = refl
no_keys (k ∷ ks) h = cc

-- what such words are read as
abbrev AreRead : List (List ℕ) → Type 0
AreRead ws = (ps : List Attribute) (ks : List (List ℕ)) → AllOf IsPair ps → AllOf IsKey ks
    → filter (λ v. not (lone v)) ws ≡ map pair_word ps
    → filter lone ws ≡ map key_word ks → requirements_of ws ≡ Some (required ps ks)

read_at : (w : List ℕ) (ws : List (List ℕ)) (t : Bool) (ps : List Attribute) (ks : List (List ℕ)) → AreRead ws → AllOf IsPair ps
    → AllOf IsKey ks
    → cond (not t) (w ∷ filter (λ v. not (lone v)) ws) (filter (λ v. not (lone v)) ws) ≡ map pair_word ps
    → cond t (w ∷ filter lone ws) (filter lone ws) ≡ map key_word ks
    → require (pair_of w) (key_of w) (requirements_of ws) ≡ Some (required ps ks)
read_at w ws false [] ks more p k e f = cc
read_at w ws false (a ∷ ps) ks more p k e f =
    let word : w ≡ pair_word a = cc in
    let rest : filter (λ v. not (lone v)) ws ≡ map pair_word ps = cc in
    ap (λ o. require o (key_of w) (requirements_of ws)) (ap pair_of word ∙ pair_own a p.0) ∙ ap (λ o. require (Some a) (key_of w) o)
    (more ps ks p.1 k rest f)
read_at w ws true ps [] more p k e f = cc
read_at w ws true ps (l ∷ ks) more p k e f =
    let word : w ≡ key_word l = cc in
    let rest : filter lone ws ≡ map key_word ks = cc in
    ap (λ o. require o (key_of w) (requirements_of ws)) (ap pair_of word ∙ (key_own l k.0).1) ∙ ap
    (λ o. require None o (requirements_of ws)) (ap key_of word ∙ (key_own l k.0).0)
    ∙ ap (λ o. require None (Some l) o) (more ps ks p k.1 e rest)

requirements_own : (ws : List (List ℕ)) → AreRead ws
requirements_own [] ps ks p k e f = ap (λ l. Some (required l [])) (no_pairs ps e) ∙ ap (λ l. Some (required ps l)) (no_keys ks f)
requirements_own (w ∷ ws) ps ks p k e f = read_at w ws (lone w) ps ks (requirements_own ws) p k e f

least_at : (q r : Required) (t : Bool) → (nat_le (length q.pairs) 8 && nat_le (length q.keys) 8) ≡ t → cond t (Some q) None ≡ Some r
    → (length q.pairs ≤ 8) × (length q.keys ≤ 8) × (q ≡ r)
least_at q r true e h =
    let same : q ≡ r = cc in (
      at_most (length q.pairs) 8 (and_left (nat_le (length q.pairs) 8) (nat_le (length q.keys) 8) e),
      at_most (length q.keys) 8
          (and_right (nat_le (length q.pairs) 8) (nat_le (length q.keys) 8) e),
      same,
    )
least_at q r false e h = cc

few_required : (o : Option Required) (r : Required) → few_requirements o ≡ Some r → (length r.pairs ≤ 8) × (length r.keys ≤ 8)
    × (o ≡ Some r)
few_required None r h = cc
few_required (Some q) r h =
    let s = least_at q r (nat_le (length q.pairs) 8 && nat_le (length q.keys) 8) refl h in
    subst (λ s. (length s.pairs ≤ 8) × (length s.keys ≤ 8) × (Some q ≡ Some s)) s.2 (s.0, s.1, refl)

-- words that are read as requirements require them
pub verifier_some : (ws : List (List ℕ)) (r : Required) → verifier_of ws ≡ Some r → VerifierFits r × Requires r ws
verifier_some ws r h =
    let s = few_required (requirements_of ws) r h in
    let q = requirements_some ws r s.2 in
    ((s.0, q.0.0, s.1, q.0.1), q.1)

-- requirements are read from the words that require them
pub verifier_own : (ws : List (List ℕ)) (r : Required) → VerifierFits r → Requires r ws → verifier_of ws ≡ Some r
verifier_own ws r f q =
    ap few_requirements (requirements_own ws r.pairs r.keys f.1 f.3 q.0 q.1)
    ∙ ap (λ t. cond t (Some r) None) (both_true (nat_le (length r.pairs) 8) (nat_le (length r.keys) 8)
    (at_most_own (length r.pairs) 8 f.0) (at_most_own (length r.keys) 8 f.2))

-- where attributes begin and end in a line

-- each of these words begins with an @
abbrev pub AreMarked : List (List ℕ) → Type 0
AreMarked ws = AllOf (λ w. begins 64 w ≡ true) ws

-- words that define attributes begin with an @
pub defined_marked : (ws : List (List ℕ)) (ps : List Attribute) → Defines ps ws → AreMarked ws
defined_marked [] ps d = tt
defined_marked (w ∷ ws) [] d = cc
defined_marked (w ∷ ws) (a ∷ ps) d =
    let word : w ≡ pair_word a = cc in
    let rest : ws ≡ map pair_word ps = cc in
    (ap (λ x. begins 64 x) word, defined_marked ws ps rest)

-- whose words begin with an @ if they are those of requirements
abbrev WouldBeMarked : List (List ℕ) → Type 0
WouldBeMarked ws = (ps : List Attribute) (ks : List (List ℕ)) → filter (λ v. not (lone v)) ws ≡ map pair_word ps
    → filter lone ws ≡ map key_word ks → AreMarked ws

marked_at : (w : List ℕ) (ws : List (List ℕ)) (t : Bool) (ps : List Attribute) (ks : List (List ℕ)) → WouldBeMarked ws
    → cond (not t) (w ∷ filter (λ v. not (lone v)) ws) (filter (λ v. not (lone v)) ws) ≡ map pair_word ps
    → cond t (w ∷ filter lone ws) (filter lone ws) ≡ map key_word ks → AreMarked (w ∷ ws)
marked_at w ws false [] ks more e f = cc
marked_at w ws false (a ∷ ps) ks more e f =
    let word : w ≡ pair_word a = cc in
    let rest : filter (λ v. not (lone v)) ws ≡ map pair_word ps = cc in
    (ap (λ x. begins 64 x) word, more ps ks rest f)
marked_at w ws true ps [] more e f = cc
marked_at w ws true ps (k ∷ ks) more e f =
    let word : w ≡ key_word k = cc in
    let rest : filter lone ws ≡ map key_word ks = cc in
    (ap (λ x. begins 64 x) word, more ps ks e rest)

would_be_marked : (ws : List (List ℕ)) → WouldBeMarked ws
would_be_marked [] ps ks e f = tt
would_be_marked (w ∷ ws) ps ks e f = marked_at w ws (lone w) ps ks (would_be_marked ws) e f

-- words that require attributes begin with an @
pub required_marked : (ws : List (List ℕ)) (r : Required) → Requires r ws → AreMarked ws
required_marked ws r q = would_be_marked ws r.pairs r.keys q.0 q.1

no_bar : (w : List ℕ) → begins 64 w ≡ true → begins 124 w ≡ false
no_bar [] h = cc
no_bar (b ∷ bs) h = ap (λ x. x == 124) (eqb-true b 64 h)

-- what begins with an @ doesn't begin with a bar
pub marked_unbarred : (ws : List (List ℕ)) → AreMarked ws → Unmarked 124 ws
marked_unbarred [] m = tt
marked_unbarred (w ∷ ws) m = (no_bar w m.0, marked_unbarred ws m.1)

-- the first of them begins with an @
pub marked_starts : (ws : List (List ℕ)) → AreMarked ws → starts 64 ws ≡ true
marked_starts [] m = refl
marked_starts (w ∷ ws) m = m.0

-- words for attributes

both_no_space : (a b : List ℕ) → has_no_space a ≡ true → has_no_space b ≡ true → has_no_space (a ++ b) ≡ true
both_no_space a b p q = list_all-append (λ c. not (c == 32)) a b ∙ ap (λ t. t && has_no_space b) p ∙ q

-- the words of pairs have no space
pub pairs_are_words : (ps : List Attribute) → AllOf IsPair ps → AreWords (map pair_word ps)
pairs_are_words [] f = tt
pairs_are_words (a ∷ ps) f = (
  both_no_space a.key (61 ∷ a.value) (visible_no_space 1 64 a.key f.0.0.0) (visible_no_space 0 256 a.value f.0.1),
  pairs_are_words ps
      f.1,
)

keys_are_words : (ks : List (List ℕ)) → AllOf IsKey ks → AreWords (map key_word ks)
keys_are_words [] f = tt
keys_are_words (k ∷ ks) f = (visible_no_space 1 64 k f.0.0, keys_are_words ks f.1)

-- words that require pairs and then keys
abbrev pub requirement_words : Required → List (List ℕ)
requirement_words r = map pair_word r.pairs ++ map key_word r.keys

all_are_words : (ps : List Attribute) (ks : List (List ℕ)) → AllOf IsPair ps → AllOf IsKey ks
    → AreWords (map pair_word ps ++ map key_word ks)
all_are_words [] ks p k = keys_are_words ks k
all_are_words (a ∷ ps) ks p k = (
  both_no_space a.key (61 ∷ a.value) (visible_no_space 1 64 a.key p.0.0.0) (visible_no_space 0 256 a.value p.0.1),
  all_are_words ps ks
      p.1 k,
)

-- they have no space
pub requirements_are_words : (r : Required) → VerifierFits r → AreWords (requirement_words r)
requirements_are_words r f = all_are_words r.pairs r.keys f.1 f.3

keys_so : (ks : List (List ℕ)) → AllOf IsKey ks → Requires (required [] ks) (map key_word ks)
keys_so [] k = (refl, refl)
keys_so (l ∷ ks) k = key_front (key_word l) (map key_word ks) l (required [] ks) k.0 refl (keys_so ks k.1)

all_so : (ps : List Attribute) (ks : List (List ℕ)) → AllOf IsPair ps → AllOf IsKey ks
    → Requires (required ps ks) (map pair_word ps ++ map key_word ks)
all_so [] ks p k = keys_so ks k
all_so (a ∷ ps) ks p k = pair_front (pair_word a) (map pair_word ps ++ map key_word ks) a (required ps ks) p.0 refl (all_so ps ks p.1 k)

-- they require just that
pub requirements_so : (r : Required) → VerifierFits r → Requires r (requirement_words r)
requirements_so r f = all_so r.pairs r.keys f.1 f.3
