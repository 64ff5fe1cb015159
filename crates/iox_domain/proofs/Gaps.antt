-- Consecutive sequence numbers, and what the numbers of a part of the messages say.
use Rattle.std.proofs.Common.{arith, ◌≡◌, ◌+◌, ◌≤◌, ◌∷◌, [], ◌++◌, append_assoc, ℕ, List, length, Option, None, Some, refl, sym, ap}
use Rattle.std.proofs.Common.{◌∙◌, subst, inl, inr}
use Rattle.std.proofs.lemmas.List.Elements.{All-append, All-cons, All-head, All-nil, All-tail}
use Rattle.std.specs.List.{All}
use Rattle.iox_domain.specs.DomainValues.Sequences.{next_sequence}
use Rattle.iox_domain.specs.DomainPorts.Messages.{Message}
use Rattle.iox_domain.specs.Gaps.{sequence_behind, AreNumberedFrom, AreNumbered, IsOutside, Missed}
use Rattle.iox_domain.specs.Order.{IsPartOf}

-- the number after two lists is that after the second, from that after the first on
behind_both : {X : Type 0} (first : Option ℕ) (xs ys : List X)
    → sequence_behind first (xs ++ ys) ≡ sequence_behind (sequence_behind first xs) ys
behind_both first [] ys = refl
behind_both first (x ∷ xs) ys = behind_both (next_sequence first) xs ys

numbered_join : {T U : Type 0} (first : Option ℕ) (xs ys : List (Message T U)) → AreNumberedFrom first xs
    → AreNumberedFrom (sequence_behind first xs) ys → AreNumberedFrom first (xs ++ ys)
numbered_join first [] ys numbered more = more
numbered_join first (x ∷ xs) ys numbered more = (numbered.0, numbered_join (next_sequence first) xs ys numbered.1 more)

numbered_split : {T U : Type 0} (first : Option ℕ) (xs ys : List (Message T U)) → AreNumberedFrom first (xs ++ ys)
    → AreNumberedFrom first xs × AreNumberedFrom (sequence_behind first xs) ys
numbered_split first [] ys numbered = (tt, numbered)
numbered_split first (x ∷ xs) ys numbered =
    let rest = numbered_split (next_sequence first) xs ys numbered.1 in ((numbered.0, rest.0), rest.1)

-- nothing was sent yet
pub numbered_none : (T U : Type 0) (last : Option ℕ) → AreNumbered {T = T} {U = U} [] last
numbered_none T U last = (next_sequence last, tt, refl)

-- one message more, with the next number
pub numbered_more : {T U : Type 0} (message : Message T U) (sent : List (Message T U)) (last : Option ℕ)
    → message.sequence ≡ next_sequence last → AreNumbered sent last → AreNumbered (sent ++ message ∷ []) (next_sequence last)
numbered_more message sent last is (first, numbered, behind) = (
  first,
  numbered_join first sent (message ∷ []) numbered (is ∙ sym behind, tt),
  behind_both first sent (message ∷ []) ∙ ap (λ number. next_sequence number) behind,
)

-- the number after n, from a number on
behind_number : {X : Type 0} (number : ℕ) (xs : List X) → sequence_behind (Some number) xs ≡ Some (number + length xs)
behind_number number [] = ap (λ n. Some n) (omega arith)
behind_number number (x ∷ xs) = behind_number (number + 1) xs ∙ ap (λ n. Some n) (omega arith)

behind_none : {X : Type 0} (xs : List X) → sequence_behind None xs ≡ None
behind_none [] = refl
behind_none (x ∷ xs) = behind_none xs

one_number : (a b : ℕ) → Some a ≡ Some b → a ≡ b
one_number a b same = cc

-- messages before a number, and from one on
below_outside : {T U : Type 0} (number low high : ℕ) (messages : List (Message T U)) → AreNumberedFrom (Some number) messages
    → number + length messages ≤ low → All (IsOutside low high) messages
below_outside number low high [] numbered few = All-nil (IsOutside low high)
below_outside number low high (message ∷ messages) numbered few =
    All-cons (IsOutside low high) message messages
    (λ its has. inl (omega (arith, few, one_number its number (sym has ∙ numbered.0))))
    (below_outside (number + 1) low high messages numbered.1 (omega (arith, few)))

above_outside : {T U : Type 0} (number low high : ℕ) (messages : List (Message T U)) → AreNumberedFrom (Some number) messages
    → high ≤ number → All (IsOutside low high) messages
above_outside number low high [] numbered from = All-nil (IsOutside low high)
above_outside number low high (message ∷ messages) numbered from =
    All-cons (IsOutside low high) message messages
    (λ its has. inr (omega (arith, from, one_number its number (sym has ∙ numbered.0))))
    (above_outside (number + 1) low high messages numbered.1 (omega (arith, from)))

before_outside : {T U : Type 0} (first : Option ℕ) (low high : ℕ) (messages : List (Message T U)) → AreNumberedFrom first messages
    → sequence_behind first messages ≡ Some low → All (IsOutside low high) messages
before_outside None low high messages numbered behind = let no : None ≡ Some low = sym (behind_none messages) ∙ behind in absurd (cc)
before_outside (Some number) low high messages numbered behind =
    below_outside number low high messages numbered
    (omega (arith, one_number (number + length messages) low (sym (behind_number number messages) ∙ behind)))

-- what holds of all of a list holds of a part of it
all_part : {X : Type 0} (P : X → Type 0) (xs ys : List X) → IsPartOf xs ys → All P ys → All P xs
all_part P [] ys part all = All-nil P
all_part P (x ∷ xs) [] part all = absurd part
all_part P (x ∷ xs) (y ∷ ys) (inl part) all =
    All-cons P x xs (subst P (sym part.0) (All-head P y ys all)) (all_part P xs ys part.1 (All-tail P y ys all))
all_part P (x ∷ xs) (y ∷ ys) (inr part) all = all_part P (x ∷ xs) ys part (All-tail P y ys all)

-- where one of a part stands in the whole
record Place {X : Type 0} (xs : List X) (y : X) (ys zs : List X) : Type 0 where
  before : List X
  after : List X
  whole : zs ≡ before ++ y ∷ after
  first : IsPartOf xs before
  rest : IsPartOf ys after

place_of : {X : Type 0} (xs : List X) (y : X) (ys zs : List X) → IsPartOf (xs ++ y ∷ ys) zs → Place xs y ys zs
place_of [] y ys [] part = absurd part
place_of [] y ys (z ∷ zs) (inl part)
    = record { before = []; after = zs; whole = ap (λ one. one ∷ zs) (sym part.0); first = tt; rest = part.1 }
place_of [] y ys (z ∷ zs) (inr part) =
    let place = place_of [] y ys zs part in
    record { before = z ∷ place.before; after = place.after; whole = ap (λ all. z ∷ all) place.whole; first = tt; rest = place.rest }
place_of (x ∷ xs) y ys [] part = absurd part
place_of (x ∷ xs) y ys (z ∷ zs) (inl part) =
    let place = place_of xs y ys zs part.1 in
    record {
      before = z ∷ place.before;
      after = place.after;
      whole = ap (λ all. z ∷ all) place.whole;
      first = inl (part.0, place.first);
      rest = place.rest;
    }
place_of (x ∷ xs) y ys (z ∷ zs) (inr part) =
    let place = place_of (x ∷ xs) y ys zs part in
    record {
      before = z ∷ place.before;
      after = place.after;
      whole = ap (λ all. z ∷ all) place.whole;
      first = inr place.first;
      rest = place.rest;
    }

-- what was missed between two of a part of what was sent
pub missed_between : {T U : Type 0} (one other : Message T U) (low high : ℕ) (earlier later waiting sent : List (Message T U))
    (last : Option ℕ) → AreNumbered sent last → IsPartOf ((earlier ++ one ∷ other ∷ later) ++ waiting) sent
    → one.sequence ≡ Some low → other.sequence ≡ Some high
    → Missed one other low high sent ((earlier ++ one ∷ other ∷ later) ++ waiting)
missed_between {T} {U} one other low high earlier later waiting sent last (first, numbered, behind) part is_low is_high =
    let rest : List (Message T U) = later ++ waiting in
    let same : (earlier ++ one ∷ other ∷ later) ++ waiting ≡ earlier ++ one ∷ other ∷ rest
    = append_assoc earlier (one ∷ other ∷ later) waiting in
    let here = place_of earlier one (other ∷ rest) sent (subst (λ (all : List (Message T U)). IsPartOf all sent) same part) in
    let there = place_of [] other rest here.after here.rest in
    let whole : sent ≡ here.before ++ one ∷ (there.before ++ other ∷ there.after)
    = here.whole ∙ ap (λ all. here.before ++ one ∷ all) there.whole in
    let all = numbered_split first here.before (one ∷ (there.before ++ other ∷ there.after))
    (subst (λ (messages : List (Message T U)). AreNumberedFrom first messages) whole numbered) in
    let low_is : sequence_behind first here.before ≡ Some low = sym all.1.0 ∙ is_low in
    let from_low : AreNumberedFrom (Some (low + 1)) (there.before ++ other ∷ there.after)
    = subst (λ number. AreNumberedFrom (next_sequence number) (there.before ++ other ∷ there.after)) low_is all.1.1 in
    let between = numbered_split (Some (low + 1)) there.before (other ∷ there.after) from_low in
    let high_is : sequence_behind (Some (low + 1)) there.before ≡ Some high = sym between.1.0 ∙ is_high in
    let count : low + 1 + length there.before ≡ high
    = one_number (low + 1 + length there.before) high (sym (behind_number (low + 1) there.before) ∙ high_is) in
    let from_high : AreNumberedFrom (Some (high + 1)) there.after
    = subst (λ number. AreNumberedFrom (next_sequence number) there.after) high_is between.1.1 in
    let outside : All (IsOutside low high) (earlier ++ one ∷ other ∷ rest) =
    All-append (IsOutside low high) earlier (one ∷ other ∷ rest)
    (all_part (IsOutside low high) earlier here.before here.first (before_outside first low high here.before all.0 low_is))
    (All-cons (IsOutside low high) one (other ∷ rest) (λ its has. inl (omega (arith, one_number its low (sym has ∙ is_low))))
    (All-cons (IsOutside low high) other rest (λ its has. inr (omega (arith, one_number its high (sym has ∙ is_high))))
    (all_part (IsOutside low high) rest there.after there.rest
    (above_outside (high + 1) low high there.after from_high (omega arith))))) in
    record {
      before = here.before;
      missed = there.before;
      after = there.after;
      whole = whole;
      numbers = between.0;
      count = count;
      outside = subst (λ (all : List (Message T U)). All (IsOutside low high) all) (sym same) outside;
    }
