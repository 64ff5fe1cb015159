-- What a trace of arrows comes to: an arrow a sample, true ways, in order.
use Rattle.std.proofs.Common.{◌≡◌, ℕ, ◌+◌, ◌<◌, ◌≤◌, Bool, true, false, List, [], ◌∷◌, ◌++◌, length, get_or, take, arith, refl, sym, ◌∙◌}
use Rattle.std.proofs.Common.{ap, subst, length-append, add-one, rules, eq-eqb, ⊎_elim}
use Rattle.std.specs.Prelude.{Option, Some, None, IfSome, All, count_by, not, ◌&&◌, nat_le, nat_lt}
use Rattle.std.specs.List.{AllPairs, list_any}
use Rattle.std.proofs.Math.Seq.{take-length}
use Rattle.std.proofs.lemmas.List.Elements.{All-push}
use Rattle.std.proofs.lemmas.List.Folds.{list_any_at}
use Rattle.std.proofs.lemmas.List.Quantifiers.{all_pairs_push}
use Rattle.std.proofs.lemmas.List.Sums.{count_by_more_no, count_by_more_yes}
use Rattle.std.proofs.lemmas.Bool.{leb-false, ltb-true}
use Rattle.std.proofs.lemmas.List.{get_or-take, length-take-le}
use Rattle.std.proofs.str.Laws.{order}
use Rattle.std.proofs.lemmas.Option.{slice_get-get_or}
use Rattle.example_tracer.specs.declared.exchange.Exchange.{Exchange}
use Rattle.example_tracer.specs.declared.arrows.Arrow.{Arrow}
use Rattle.example_tracer.specs.Exchange.{Seen, is_text}
use Rattle.example_tracer.specs.Trace.{received_of, gives_sample, sent_at, received_at, fits, passes, may_come, may_be, IsOnly, IsArrow}
use Rattle.example_tracer.specs.Trace.{Trace, start, silent, sample, Joins, Follows, KeepsOrder, is_lost, before_it, LostForGood}

both : (a b : Bool) → (a && b) ≡ true → (a ≡ true) × (b ≡ true)
both true b e = (refl, e)
both false b e = (e, absurd (clash e))
  where
    clash : false ≡ true → ⊥
    clash e = cc

turned : (a : Bool) → not a ≡ true → a ≡ false
turned true e = sym e
turned false e = refl

-- what may have come was sent, fits, and no arrow passes it
pub record MayCome (arrows : List Arrow) (received : Seen) (line : ℕ) (sends : Option Seen) : Type 0 where
  pub sent : Seen
  pub is : sends ≡ Some sent
  pub fitting : fits sent received ≡ true
  pub none_passes : list_any (λ arrow. passes arrow received.port sent.port line) arrows ≡ false

pub may_come-true : (arrows : List Arrow) (received : Seen) (line : ℕ) (sends : Option Seen)
    → may_come arrows received line sends ≡ true → MayCome arrows received line sends
may_come-true arrows received line None e = absurd (clash e)
  where
    clash : false ≡ true → ⊥
    clash e = cc
may_come-true arrows received line (Some sent) e =
    let parts = both (fits sent received) (not (list_any (λ arrow. passes arrow received.port sent.port line) arrows)) e in
    record { sent = sent; is = refl; fitting = parts.0; none_passes = turned _ parts.1 }

if_some : (o : Option ℕ) (P : ℕ → Type 0) → ((k : ℕ) → o ≡ Some k → P k) → IfSome o P
if_some None P each = tt
if_some (Some k) P each = each k refl

follows : (first later : Option ℕ) → ((j k : ℕ) → first ≡ Some j → later ≡ Some k → j < k) → Follows first later
follows None later each = tt
follows (Some j) None each = tt
follows (Some j) (Some k) each = each j k refl refl

-- where no element passes, none does at any place
none_at : (test : Arrow → Bool) (xs : List Arrow) (i : ℕ) (d : Arrow) → i < length xs → list_any test xs ≡ false
    → test (get_or xs i d) ≡ false
none_at test xs i d below none = at_no (test (get_or xs i d)) (λ passing. list_any_at test xs i d below passing) none
  where
    at_no : (b : Bool) → (b ≡ true → list_any test xs ≡ true) → list_any test xs ≡ false → b ≡ false
    at_no true leads none = sym (leads refl) ∙ none
    at_no false leads none = refl

-- a text is itself
is_text-refl : (text : List ℕ) → is_text text text ≡ true
is_text-refl [] = refl
is_text-refl (b ∷ bs) = rw (eq-eqb b b refl) (is_text-refl bs)

is_text-eq : (a b : List ℕ) → a ≡ b → is_text a b ≡ true
is_text-eq a b e = rw e (is_text-refl b)

module _ (conversation : List Exchange) where
  -- the line that an arrow begins at
  begins : {arrows : List Arrow} {n : ℕ} {received : Seen} {arrow : Arrow} → IsArrow conversation arrows n received arrow → (k : ℕ)
      → arrow.origin ≡ Some k → (k < n) × MayCome arrows received k (sent_at conversation k)
  begins {arrows} {n} {received} {arrow} it k e =
      let only : IsOnly (may_be conversation arrows received) n (Some k) = rw e at it.origin in
      (only.0, may_come-true arrows received k (sent_at conversation k) only.1)

  -- the publisher of an arrow is the port that sent
  publishes : {arrows : List Arrow} {n : ℕ} {received : Seen} {arrow : Arrow} → IsArrow conversation arrows n received arrow
      → (k : ℕ) (sent : Seen) → arrow.origin ≡ Some k → sent_at conversation k ≡ Some sent → arrow.publisher.now ≡ sent.port
  publishes {arrows} {n} {received} {arrow} it k sent e there =
      let at : IfSome (sent_at conversation k) (λ sent. arrow.publisher.now ≡ sent.port) = rw e at it.publisher in
      rw there at at

  joins : {arrows : List Arrow} {n : ℕ} {received : Seen} {arrow : Arrow} → received_at conversation n ≡ Some received
      → IsArrow conversation arrows n received arrow → Joins conversation arrow
  joins {arrows} {n} {received} {arrow} got it =
      (received, rw it.receipt got, it.subscriber, if_some arrow.origin _ (λ k e. ends_at k e))
    where
      ends_at : (k : ℕ) → arrow.origin ≡ Some k → (k < arrow.receipt)
          × ((sent : Seen) × (sent_at conversation k ≡ Some sent) × (arrow.publisher.now ≡ sent.port) × (fits sent received ≡ true))
      ends_at k e =
          let begun = begins it k e in
          (rw it.receipt begun.0, (begun.1.sent, begun.1.is, publishes it k begun.1.sent e begun.1.is, begun.1.fitting))

  pub all_join : {n : ℕ} {arrows : List Arrow} → Trace conversation n arrows → All (Joins conversation) arrows
  all_join start = search rules
  all_join (silent before nothing) = all_join before
  all_join (sample {n} {arrows} {arrow} {received} before got it)
      = All-push (Joins conversation) arrows arrow (all_join before) (joins got it)

  -- an arrow that no longer passes begins before the line
  pub behind_it : (a : Arrow) (s p : List ℕ) (j k : ℕ) → a.origin ≡ Some j → is_text a.subscriber.now s ≡ true
      → is_text a.publisher.now p ≡ true → passes a s p k ≡ false → j < k
  behind_it a s p j k e same_s same_p not_passed =
      let test : (nat_le k j && is_text a.subscriber.now s && is_text a.publisher.now p) ≡ false = rw e at not_passed in
      let alone : nat_le k j ≡ false = simple (nat_le k j) _ _ same_s same_p test in
      leb-false k j alone
    where
      simple : (a b c : Bool) → b ≡ true → c ≡ true → (a && b && c) ≡ false → a ≡ false
      simple true b c first second wrong = absurd (clash b c first second wrong)
        where
          clash : (b c : Bool) → b ≡ true → c ≡ true → (true && b && c) ≡ false → ⊥
          clash b c first second wrong = cc
      simple false b c first second wrong = refl

  pub all_in_order : {n : ℕ} {arrows : List Arrow} → Trace conversation n arrows → AllPairs KeepsOrder arrows
  all_in_order start = search rules
  all_in_order (silent before nothing) = all_in_order before
  all_in_order (sample {n} {arrows} {arrow} {received} before got it) =
      all_pairs_push KeepsOrder arrows arrow (all_in_order before) (λ i d below same_s same_p.
      follows (get_or arrows i d).origin arrow.origin (λ j k first later.
      let begun = begins it k later in
      let none = begun.1.none_passes in
      let port = publishes it k begun.1.sent later begun.1.is in
      behind_it (get_or arrows i d) received.port begun.1.sent.port j k first (is_text-eq _ _ (same_s ∙ it.subscriber))
      (is_text-eq _ _ (same_p ∙ port))
      (none_at (λ a. passes a received.port begun.1.sent.port k) arrows i d below none)))

  -- what is lost was passed over by an arrow to a later line, and nothing came before
  lost_parts : (before : List Arrow) (arrow : Arrow) (line since : ℕ) (sends : Option Seen) → is_lost before arrow line since sends ≡ true
      → (before_it line arrow.origin ≡ true)
      × (list_any (λ earlier. passes earlier arrow.subscriber.now arrow.publisher.now line) before ≡ false)
  lost_parts before arrow line since None e = absurd (clash e)
    where
      clash : false ≡ true → ⊥
      clash e = cc
  lost_parts before arrow line since (Some sent) e =
      let untold_out = both _ _ e in
      let passed_out = both _ _ untold_out.0 in
      let port_out = both _ _ passed_out.0 in
      let before_out = both _ _ port_out.0 in
      (before_out.1, turned _ passed_out.1)

  not_itself : (line : ℕ) (origin : Option ℕ) → before_it line origin ≡ true → origin ≡ Some line → ⊥
  not_itself line origin later e =
      let test : nat_lt line line ≡ true = rw e at later in
      absurd (irreflexive (ltb-true line line test))
    where
      irreflexive : line < line → ⊥
      irreflexive below = omega arith

  later_origin : (line : ℕ) (origin last : Option ℕ) → before_it line origin ≡ true → Follows origin last → last ≡ Some line → ⊥
  later_origin line None last none follow e = absurd (clash none)
    where
      clash : false ≡ true → ⊥
      clash e = cc
  later_origin line (Some origin) last behind follow e =
      let order : origin < line = rw e at follow in
      let other_way : line < origin = ltb-true line origin behind in
      omega arith

  pub all_lost_for_good : {n : ℕ} {arrows : List Arrow} → Trace conversation n arrows → LostForGood conversation arrows
  all_lost_for_good {n} {arrows} trace i j line since d i_in j_in lost same_s same_p leads =
      let parts = lost_parts (take i arrows) (get_or arrows i d) line since (sent_at conversation line) lost in
      ⊎_elim
      (λ earlier.
      let in_front : j < length (take i arrows) = omega (arith, length-take-le i arrows (omega arith)) in
      let quiet = none_at (λ a. passes a (get_or arrows i d).subscriber.now (get_or arrows i d).publisher.now line) (take i arrows) j d
      in_front parts.1 in
      let there : passes (get_or arrows j d) (get_or arrows i d).subscriber.now (get_or arrows i d).publisher.now line ≡ false
      = rw (get_or-take i arrows j d earlier) at quiet in
      let gone : line < line = behind_it (get_or arrows j d) (get_or arrows i d).subscriber.now (get_or arrows i d).publisher.now line
      line leads (is_text-eq _ _ same_s) (is_text-eq _ _ same_p) there in
      omega arith)
      (λ not_earlier.
      ⊎_elim
      (λ later. later_origin line (get_or arrows i d).origin (get_or arrows j d).origin parts.0
      (all_in_order trace i j d later j_in (sym same_s) (sym same_p)) leads)
      (λ not_later.
      let same : j ≡ i = omega arith in
      not_itself line (get_or arrows i d).origin parts.0 (rw same at leads))
      (order i j))
      (order j i)

  -- where a line is, it is the exchange at its place
  here : (n : ℕ) (d : Exchange) → n < length conversation → received_at conversation n ≡ received_of (get_or conversation n d)
  here n d below = rw (slice_get-get_or conversation n d below) refl

  pub all_counted : {n : ℕ} {arrows : List Arrow} → Trace conversation n arrows → (d : Exchange) → n ≤ length conversation
      → length arrows ≡ count_by gives_sample (take n conversation)
  all_counted start d within = search rules
  all_counted (silent {n} {arrows} before nothing) d within =
      let gives_none : gives_sample (get_or conversation n d) ≡ false = rw (← here n d (omega arith), nothing) refl in
      subst (λ m. length arrows ≡ count_by gives_sample (take m conversation)) (add-one n)
      (all_counted before d (omega arith) ∙ sym (count_by_more_no gives_sample conversation n d (omega arith) gives_none))
  all_counted (sample {n} {arrows} {arrow} {received} before got it) d within =
      let gives : gives_sample (get_or conversation n d) ≡ true = rw (← here n d (omega arith), got) refl in
      subst (λ m. length (arrows ++ arrow ∷ []) ≡ count_by gives_sample (take m conversation)) (add-one n)
      (length-append arrows (arrow ∷ []) ∙ ap (λ m. m + 1) (all_counted before d (omega arith)) ∙ sym
      (count_by_more_yes gives_sample conversation n d (omega arith) gives))

nothing_counted : {n : ℕ} {arrows : List Arrow} → Trace [] n arrows → n ≡ 0 → length arrows ≡ 0
nothing_counted start e = refl
nothing_counted (silent {n} before nothing) e = absurd (omega arith)
nothing_counted (sample {n} before got it) e = absurd (omega arith)

pub counted : (conversation : List Exchange) (arrows : List Arrow) → Trace conversation (length conversation) arrows
    → length arrows ≡ count_by gives_sample conversation
counted [] arrows trace = nothing_counted trace refl
counted (x ∷ xs) arrows trace = all_counted (x ∷ xs) trace x (omega arith) ∙ ap (count_by gives_sample) (take-length (x ∷ xs))
