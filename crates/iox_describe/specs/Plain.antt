-- JSON values that can be read back from their text: numbers are unsigned and have 64 bits, texts are UTF-8, keys are in rising order, and
-- nesting is bounded.
use Rattle.std.specs.Prelude.{◌≡◌, ◌<◌, ◌^◌, ℕ, zero, suc}
use Rattle.std.specs.Str.{IsUtf8}
use Rattle.serde_json.specs.Data.{unsigned, negative, float, Data, null, boolean, number, string, array, object, Items, no_items, item}
use Rattle.serde_json.specs.Data.{Members, no_members, member, put}

-- The members `found` after these members were put into them, one after another.
abbrev pub put_all : Members → Members → Members
put_all no_members found = found
put_all (member key value more) found = put_all more (put key value found)

-- The value is plain, and nests at most `n` levels deep.
abbrev mutual
  pub IsPlain : ℕ → Data → Type 0
  IsPlain n null = Unit {0}
  IsPlain n (boolean b) = Unit {0}
  IsPlain n (number (unsigned m)) = m < 2 ^ 64
  IsPlain n (number (negative z)) = ⊥
  IsPlain n (number (float x)) = ⊥
  IsPlain n (string s) = IsUtf8 s
  IsPlain zero (array ds) = ⊥
  IsPlain (suc n) (array ds) = AreItems n ds
  IsPlain zero (object ms) = ⊥
  IsPlain (suc n) (object ms) = (put_all ms no_members ≡ ms) × AreMembers n ms

  -- Each item is a plain value.
  pub AreItems : ℕ → Items → Type 0
  AreItems n no_items = Unit {0}
  AreItems n (item d ds) = IsPlain n d × AreItems n ds

  -- Each member has a text as its key, and a plain value.
  pub AreMembers : ℕ → Members → Type 0
  AreMembers n no_members = Unit {0}
  AreMembers n (member k d ms) = IsUtf8 k × IsPlain n d × AreMembers n ms
