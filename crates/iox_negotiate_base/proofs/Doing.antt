-- Lists of storage operations, made of the storage operations of callees.
use Rattle.std.proofs.Common.{◌≡◌, ℕ, suc, ◌<◌, List, [], ◌∷◌, ◌++◌, Option, None, Some, refl, sym, inl, inr}
use Rattle.std.proofs.lemmas.List.{append-nil}
use Rattle.iox_negotiate_base.specs.Access.{Access}
use Rattle.iox_negotiate_base.specs.Runs.{Went, Does, Led, Rounds}

-- one list of storage operations after another
pub went-append : {S : Type 0} (gives : S → Access → S → Type 0) (old mid new : S) (first second : List Access)
    → Went gives old first mid → Went gives mid second new
    → Went gives old (first ++ second) new
went-append gives old mid new [] second start rest = rw (← start) rest
went-append gives old mid new (access ∷ first) second (next, given, start) rest
    = (next, given, went-append gives next mid new first second start rest)

module _ {S : Type 0} {gives : S → Access → S → Type 0} where
  -- nothing was made
  pub idle : (old : S) (telling : List Access → Type 0) → telling [] → Does gives old telling old
  idle old telling told = record { made = []; went = refl; told = told }

  -- one storage operation alone
  pub alone : (old new : S) (access : Access) (telling : List Access → Type 0) → gives old access new → telling (access ∷ [])
      → Does gives old telling new
  alone old new access telling given told = record { made = access ∷ []; went = (new, given, refl); told = told }

  -- a storage operation, and then those of a callee
  pub more : (old mid new : S) (access : Access) (rest telling : List Access → Type 0) → gives old access mid → Does gives mid rest new
      → ((made : List Access) → rest made → telling (access ∷ made)) → Does gives old telling new
  more old mid new access rest telling given does say =
      record { made = access ∷ does.made; went = (mid, given, does.went); told = say does.made does.told }

  -- those of a callee, told in other words
  pub retold : (old new : S) (telling other : List Access → Type 0) → Does gives old telling new
      → ((made : List Access) → telling made → other made)
      → Does gives old other new
  retold old new telling other does say = record { made = does.made; went = does.went; told = say does.made does.told }

  module _ {R : Type 0} (round : List Access → Option R → Type 0) where
    -- a round more that leads on
    pub led-more : (old mid new : S) (count next : ℕ) → suc count ≡ next → Does gives old (Led round count) mid
        → Does gives mid (λ made. round made None) new
        → Does gives old (Led round next) new
    led-more old mid new count next is so_far last =
        rw (← is) (record {
          made = so_far.made ++ last.made;
          went = went-append gives old mid new so_far.made last.made so_far.went last.went;
          told = (so_far.made, last.made, refl, so_far.told, last.told);
        })

    -- a round that comes to the answer
    pub round-ends : (old mid new : S) (count : ℕ) (exhausted result : R) → count < 5 → Does gives old (Led round count) mid
        → Does gives mid (λ made. round made (Some result)) new → Does gives old (λ made. Rounds round exhausted made result) new
    round-ends old mid new count exhausted result few so_far last = record {
      made = so_far.made ++ last.made;
      went = went-append gives old mid new so_far.made last.made so_far.went last.went;
      told = record { count = count; before = so_far.made; last = last.made; all = refl; led = so_far.told; ends = inl (few, last.told) };
    }

    -- five rounds that came to none
    pub rounds-exhausted : (old new : S) (count : ℕ) (exhausted : R) → count ≡ 5 → Does gives old (Led round count) new
        → Does gives old (λ made. Rounds round exhausted made exhausted) new
    rounds-exhausted old new count exhausted five so_far = record {
      made = so_far.made;
      went = so_far.went;
      told = record {
        count = count;
        before = so_far.made;
        last = [];
        all = sym (append-nil so_far.made);
        led = so_far.told;
        ends
            = inr (five, refl, refl);
      };
    }
