-- What the ways of a picture are when one more shape is drawn.
use Rattle.std.proofs.Common.{◌≡◌, ◌∙◌, ℕ, ◌+◌, Bool, true, false, List, [], ◌∷◌, ◌++◌, map, length, take, get_or, ◌<◌, refl, ap}
use Rattle.std.proofs.Common.{zero-add, append_assoc, append-nil, arith, ◌≤◌, ⊎_elim}
use Rattle.std.specs.Prelude.{Option, Some, None, ◌⊎◌, filter, position}
use Rattle.std.specs.List.{range_with_len, position_or_len}
use Rattle.std.proofs.lemmas.Bool.{cases_lt, lt-ltb, le-ltb}
use Rattle.std.proofs.lemmas.List.{map-append, take_more, get_or_default}
use Rattle.std.proofs.lemmas.List.Sums.{position_or_len_is}
use Rattle.std.proofs.lemmas.List.Elements.{filter-append}
use Rattle.std.proofs.lemmas.List.FromFn.{filter_of_map_range_with_len_more}
use Rattle.example_tracer.specs.declared.exchange.Exchange.{Exchange}
use Rattle.example_tracer.specs.declared.drawing.Shape.{Shape}
use Rattle.example_tracer.specs.Drawing.{drawing_of}
use Rattle.example_tracer.specs.declared.arrows.Arrow.{Arrow}
use Rattle.example_tracer.specs.Trace.{Trace}
use Rattle.example_tracer.specs.Frame.{is_way, rows_of, ways_in}
use Rattle.example_tracer.specs.Picture.{across, rows_of_way, lost_rows, IsDrawn, more, Pictures}

-- one more shape is one more way, or none
pub drawn_behind : (shapes : List Shape) (shape : Shape) → ways_in (shapes ++ shape ∷ []) ≡ ways_in shapes ++ ways_in (shape ∷ [])
drawn_behind shapes shape = ap (map rows_of) (filter-append is_way shapes (shape ∷ [])) ∙ map-append rows_of (filter is_way shapes)
    (filter is_way (shape ∷ []))

-- one more line that is lost
pub one_more : (shapes : List Shape) (shape : Shape) (old : List (Option ℕ × ℕ)) (test : Option ℕ × ℕ → Bool) (n : ℕ)
    → ways_in shapes ≡ old ++ filter test (map across (range_with_len 0 n))
    → ways_in (shape ∷ []) ≡ across n ∷ [] → test (across n) ≡ true
    → ways_in (shapes ++ shape ∷ []) ≡ old ++ filter test (map across (range_with_len 0 (n + 1)))
one_more shapes shape old test n so is lost =
    rw (filter_of_map_range_with_len_more test across 0 n n (zero-add n), lost, drawn_behind, so, is, append_assoc) refl

-- one more line that isn't
pub none_more : (shapes : List Shape) (old : List (Option ℕ × ℕ)) (test : Option ℕ × ℕ → Bool) (n : ℕ)
    → ways_in shapes ≡ old ++ filter test (map across (range_with_len 0 n))
    → test (across n) ≡ false → ways_in shapes ≡ old ++ filter test (map across (range_with_len 0 (n + 1)))
none_more shapes old test n so kept =
    rw (filter_of_map_range_with_len_more test across 0 n n (zero-add n), kept, append-nil) so

-- a drawing of shapes that are drawn for the arrows of a conversation is a picture of it
pub pictured : (conversation : List Exchange) (arrows : List Arrow) (style : List ℕ) (width : ℕ) (shapes lent : List Shape)
    (text : List ℕ) → Trace conversation (length conversation) arrows
    → IsDrawn conversation arrows (ways_in shapes) → lent ≡ shapes → text ≡ drawing_of style width (length conversation) lent
    → Pictures conversation text
pictured conversation arrows style width shapes lent text traced drawn same written =
    record { arrows = arrows; traced = traced; style = style; width = width; shapes = shapes; drawn = drawn; written = rw same at written }

-- one more arrow is drawn
pub drawn_on : (conversation : List Exchange) (arrows : List Arrow) (at : ℕ) (d : Arrow) (before after : List Shape)
    → at < length arrows → IsDrawn conversation (take at arrows) (ways_in before)
    → ways_in after ≡ ways_in before ++ rows_of_way (get_or arrows at d) ∷ []
    ++ lost_rows conversation (take at arrows) (get_or arrows at d) → IsDrawn conversation (take (at + 1) arrows) (ways_in after)
drawn_on conversation arrows at d before after within drawn added =
    rw (take_more arrows at d within, added) (more (get_or arrows at d) drawn)

-- one more line that doesn't pass
pub fails_on : (test : Exchange → Bool) (xs : List Exchange) (i : ℕ) (e : Exchange) → i < length xs → test (get_or xs i e) ≡ false
    → ((k : ℕ) (d : Exchange) → k < i → test (get_or xs k d) ≡ false)
    → (k : ℕ) (d : Exchange) → k < i + 1 → test (get_or xs k d) ≡ false
fails_on test xs i e within fails before k d below =
    let split : (k < i) ⊎ (i ≤ k) = cases_lt k i in
    ⊎_elim (λ less. before k d less)
    (λ least. let same : k ≡ i = omega arith in rw same (ap test (get_or_default xs i d e within) ∙ fails)) split

-- the first line that passes
pub first_at : (test : Exchange → Bool) (xs : List Exchange) (i : ℕ) (e : Exchange) → i < length xs → test (get_or xs i e) ≡ true
    → ((k : ℕ) (d : Exchange) → k < i → test (get_or xs k d) ≡ false) → Some i ≡ position test xs
first_at test xs i e within passes before =
    let at : position_or_len test xs ≡ i = position_or_len_is test xs i e (omega arith) (λ k below. before k e below) (λ _. passes) in
    rw (at, lt-ltb i (length xs) within) refl

-- no line passes
pub none_passes : (test : Exchange → Bool) (xs : List Exchange)
    → ((k : ℕ) (d : Exchange) → k < length xs → test (get_or xs k d) ≡ false) → None ≡ position test xs
none_passes test [] fails = refl
none_passes test (x ∷ rest) fails =
    let at : position_or_len test (x ∷ rest) ≡ length (x ∷ rest)
    = position_or_len_is test (x ∷ rest) (length (x ∷ rest)) x (omega arith) (λ k below. fails k x below)
    (λ within. absurd (omega arith)) in
    rw (at, le-ltb (length (x ∷ rest)) (length (x ∷ rest)) (omega arith)) refl
