-- A plain value is read back from its text.
use Rattle.std.proofs.Common.{◌≡◌, ◌≤◌, ℕ, zero, suc, List, [], ◌∷◌, ◌||◌, Bool, true, false, Option, Some, option_map, option_and_then}
use Rattle.std.proofs.Common.{refl, sym, ap, ◌∙◌, arith, append-nil}
use Rattle.std.specs.Str.{IsUtf8}
use Rattle.std.proofs.lemmas.Str.{IsUtf8-append, IsUtf8-from_ascii, IsUtf8-nil}
use Rattle.std.proofs.lemmas.Fmt.{IsAscii-decimal}
use Rattle.json.specs.Lex.{tokens}
use Rattle.json.specs.Token.{Token}
use Rattle.json.specs.Json as json
use Rattle.json.specs.Print.{quoted}
use Rattle.json.specs.Tree as tree
use Rattle.json.proofs.Printed.Decimals.{IsNumber-decimal}
use Rattle.json.proofs.Printed.Tokens.{tokens-print}
use Rattle.json.proofs.Printed.Trees.{value-json_tokens, ArePrintable-json_tokens}
pub use Rattle.json.proofs.Printed.Utf8.{are_ascii, IsUtf8-are_ascii}
use Rattle.json.proofs.Printed.Utf8.{IsUtf8-boolean, IsUtf8-quoted}
use Rattle.serde_json.specs.Data.{unsigned, negative, float, Data, null, boolean, number, string, array, object, Items, no_items, item}
use Rattle.serde_json.specs.Data.{Members, no_members, member, put}
use Rattle.serde_json.specs.Read.{of_json, of_items, of_members, read, max_depth}
use Rattle.serde_json.specs.Written.{outline, items_outline, members_outline, has_float, items_have_float, members_have_float, comma_if}
use Rattle.serde_json.specs.Written.{compact_text, items_text, members_text}
use Rattle.serde_json.proofs.Numbers.{number_of-decimal}
use Rattle.serde_json.proofs.Texts.{print-outline}
use Rattle.iox_describe.specs.Plain.{put_all, IsPlain, AreItems, AreMembers}

-- what is known of a plain value
record Reads (n : ℕ) (d : Data) : Type 0 where
  numbers : tree.HasNumbers (outline d)
  depth : tree.depth (outline d) ≤ n
  back : of_json (outline d) ≡ Some d
  floats : has_float d ≡ false
  utf8 : IsUtf8 (compact_text d)

record ReadsItems (n : ℕ) (ds : Items) : Type 0 where
  numbers : tree.ItemsHaveNumbers (items_outline ds)
  depth : tree.items_depth (items_outline ds) ≤ n
  back : of_items (items_outline ds) ≡ Some ds
  floats : items_have_float ds ≡ false
  utf8 : (later : Bool) → IsUtf8 (items_text later ds)

record ReadsMembers (n : ℕ) (ms : Members) : Type 0 where
  numbers : tree.MembersHaveNumbers (members_outline ms)
  depth : tree.members_depth (members_outline ms) ≤ n
  back : (found : Members) → of_members (members_outline ms) found ≡ Some (put_all ms found)
  floats : members_have_float ms ≡ false
  utf8 : (later : Bool) → IsUtf8 (members_text later ms)

comma : (later : Bool) → IsUtf8 (comma_if later)
comma true = IsUtf8-are_ascii (44 ∷ []) refl
comma false = IsUtf8-nil

mutual
  reads : (n : ℕ) (d : Data) → IsPlain n d → Reads n d
  reads n null h = record { numbers = tt; depth = omega arith; back = refl; floats = refl; utf8 = IsUtf8-are_ascii _ refl }
  reads n (boolean b) h = record { numbers = tt; depth = omega arith; back = refl; floats = refl; utf8 = IsUtf8-boolean b }
  reads n (number (unsigned m)) h = record {
    numbers = IsNumber-decimal m h;
    depth = omega arith;
    back = ap (option_map number) (number_of-decimal m h);
    floats = refl;
    utf8 = IsUtf8-from_ascii _ (IsAscii-decimal m h);
  }
  reads n (number (negative z)) h = absurd h
  reads n (number (float x)) h = absurd h
  reads n (string s) h = record { numbers = tt; depth = omega arith; back = refl; floats = refl; utf8 = IsUtf8-quoted s h }
  reads zero (array ds) h = absurd h
  reads (suc n) (array ds) h =
      let r = reads_items n ds h in record {
        numbers = r.numbers;
        depth = omega (arith, r.depth);
        back = ap (option_map array) r.back;
        floats = r.floats;
        utf8 = IsUtf8-append (91 ∷ []) (items_text false ds) (IsUtf8-are_ascii (91 ∷ []) refl) (r.utf8 false);
      }
  reads zero (object ms) h = absurd h
  reads (suc n) (object ms) h =
      let r = reads_members n ms h.1 in record {
        numbers = r.numbers;
        depth = omega (arith, r.depth);
        back = ap (option_map object) (r.back no_members ∙ ap Some h.0);
        floats = r.floats;
        utf8 = IsUtf8-append (123 ∷ []) (members_text false ms) (IsUtf8-are_ascii (123 ∷ []) refl) (r.utf8 false);
      }

  reads_items : (n : ℕ) (ds : Items) → AreItems n ds → ReadsItems n ds
  reads_items n no_items h
      = record { numbers = tt; depth = omega arith; back = refl; floats = refl; utf8 = λ later. IsUtf8-are_ascii (93 ∷ []) refl }
  reads_items n (item d ds) h =
      let a = reads n d h.0 in
      let b = reads_items n ds h.1 in record {
        numbers = (a.numbers, b.numbers);
        depth = omega (arith, a.depth, b.depth);
        back = ap (λ o. option_and_then (λ x. option_map (item x) (of_items (items_outline ds))) o) a.back ∙ ap (option_map (item d))
            b.back;
        floats = λ i. a.floats i || b.floats i;
        utf8 = λ later. IsUtf8-append (comma_if later) _ (comma later)
            (IsUtf8-append (compact_text d) (items_text true ds) a.utf8 (b.utf8 true));
      }

  reads_members : (n : ℕ) (ms : Members) → AreMembers n ms → ReadsMembers n ms
  reads_members n no_members h = record
      { numbers = tt; depth = omega arith; back = λ found. refl; floats = refl; utf8 = λ later. IsUtf8-are_ascii (125 ∷ []) refl }
  reads_members n (member k d ms) h =
      let a = reads n d h.1 in
      let b = reads_members n ms h.2 in record {
        numbers = (a.numbers, b.numbers);
        depth = omega (arith, a.depth, b.depth);
        back = λ found. ap (λ o. option_and_then (λ x. of_members (members_outline ms) (put k x found)) o) a.back ∙ b.back (put k d found);
        floats = λ i. a.floats i || b.floats i;
        utf8 = λ later.
            IsUtf8-append (comma_if later) _ (comma later)
            (IsUtf8-append (quoted k) _ (IsUtf8-quoted k h.0)
            (IsUtf8-append (58 ∷ []) _ (IsUtf8-are_ascii (58 ∷ []) refl)
            (IsUtf8-append (compact_text d) (members_text true ms) a.utf8 (b.utf8 true))));
      }

-- the value of a whole text, of what its tokens were read as
abbrev whole : Option (json.Json × List Token) → Option Data
whole o = option_and_then of_json (option_and_then (λ p. json.if_last p.0 p.1) o)

-- no number of it is a float, so that its text is its compact text
pub plain-floats : (n : ℕ) (d : Data) → IsPlain n d → has_float d ≡ false
plain-floats n d h = (reads n d h).floats

-- the text is text
pub plain-utf8 : (n : ℕ) (d : Data) → IsPlain n d → IsUtf8 (compact_text d)
plain-utf8 n d h = (reads n d h).utf8

-- the text reads as the value
pub plain-read : (n : ℕ) (d : Data) → n ≤ 127 → IsPlain n d → read (compact_text d) ≡ Some d
plain-read n d shallow h =
    let r = reads n d h in
    let same : tokens (compact_text d) ≡ tree.json_tokens (outline d)
    = ap tokens (sym (print-outline d)) ∙ tokens-print _ (ArePrintable-json_tokens (outline d) r.numbers) in
    ap whole (ap (json.value max_depth) (same ∙ sym (append-nil _)) ∙ value-json_tokens (outline d) max_depth []
    (omega (arith, r.depth, shallow))) ∙ r.back
