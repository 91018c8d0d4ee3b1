-- A text begins with one field at most, and is the fields of one list of numbers at most; so a loop that reads field after
-- field finds the numbers if there are any.
use Rattle.std.proofs.Common.{◌≡◌, ℕ, ◌+◌, ◌<◌, ◌≤◌, List, [], ◌∷◌, ◌++◌, length, get_or, take, drop, set, sym, refl, ap, ◌∙◌, subst, arith, take-append-drop, All}
use Rattle.std.proofs.lemmas.List.FromFn.{fill_by_all}
use Rattle.std.proofs.lemmas.List.{append_assoc, append-nil, drop_more, length-take-le, nil_from_length, take_all, take_more_set}
use Rattle.std.proofs.lemmas.Slice.{first_rest}
use Rattle.std.specs.List.{between}
use Rattle.book.specs.Grammar.{Digit, NoDigit, Field, Fields, listed, value}
use Rattle.book.proofs.Numerals.{digits_once}

tails : (a b : ℕ) (s t : List ℕ) → a ∷ s ≡ b ∷ t → s ≡ t
tails a b s t e = cc

pub field_once : (text : List ℕ) (m n : ℕ) (r s : List ℕ) → Field text m r → Field text n s → (m ≡ n) × (r ≡ s)
field_once text m n r s f g =
    let e = tails 32 32 (f.digits ++ r) (g.digits ++ s) (sym f.parts ∙ g.parts) in
    let p = digits_once f.digits g.digits r s f.numeral.decimal g.numeral.decimal f.whole g.whole e in
    (sym f.numeral.means ∙ ap value p.0 ∙ g.numeral.means, p.1)

no_field_empty : (n : ℕ) (rest : List ℕ) → Field [] n rest → ⊥
no_field_empty n rest f = let e = f.parts in let z : ◌≡◌ {A = ℕ} 0 1 = cc in omega arith

pub fields_once : (text ms ns : List ℕ) → Fields text ms → Fields text ns → ms ≡ ns
fields_once text [] [] f g = refl
fields_once text [] (n ∷ ns) f g = absurd (no_field_empty n g.0 (subst (λ (t : List ℕ). Field t n g.0) f g.1))
fields_once text (m ∷ ms) [] f g = absurd (no_field_empty m f.0 (subst (λ (t : List ℕ). Field t m f.0) g f.1))
fields_once text (m ∷ ms) (n ∷ ns) f g =
    let p = field_once text m n f.0 g.0 f.1 g.1 in
    let e = fields_once g.0 ms ns (subst (λ (t : List ℕ). Fields t ms) p.1 f.2) g.2 in
    cc (p.0, e)

pub after_space : (text : List ℕ) → 0 < length text → get_or text 0 0 ≡ 32 → text ≡ 32 ∷ between 1 (length text) text
after_space text h e = rw (← e) (first_rest text 0 h)

-- `count` digits stand after the space, and no more: there is no field where they are too few, too many or too large
pub no_field : (text tail : List ℕ) (count : ℕ) → text ≡ 32 ∷ tail → count ≤ length tail → All Digit (take count tail) → NoDigit (drop count tail) → (1 ≤ count → count ≤ 5 → value (take count tail) < 65536 → ⊥) → (n : ℕ) (rest : List ℕ) → Field text n rest → ⊥
no_field text tail count e b d s x n rest f =
    let t : f.digits ++ rest ≡ take count tail ++ drop count tail = tails 32 32 _ _ (sym f.parts ∙ e) ∙ sym (take-append-drop count tail) in
    let p = digits_once f.digits (take count tail) rest (drop count tail) f.numeral.decimal d f.whole s t in
    let l = length-take-le count tail b in
    let m = ap length p.0 in
    let v = ap value p.0 in
    let g = f.numeral in x (omega (arith, g.some)) (omega (arith, g.few)) (omega (arith, g.means, g.small))

-- text is the fields of the numbers ms, and then rest
abbrev pub Front : List ℕ → List ℕ → List ℕ → Type 0
Front text ms rest = (ns : List ℕ) → Fields rest ns → Fields text (ms ++ ns)

-- if text is the fields of n numbers, rest is those of all but the first i
abbrev pub Back : List ℕ → ℕ → ℕ → List ℕ → Type 0
Back text n i rest = (ns : List ℕ) → length ns ≡ n → Fields text ns → Fields rest (drop i ns)

pub front_more : (text rest after ms : List ℕ) (i m : ℕ) → i < length ms → Front text (take i ms) rest → Field rest m after → Front text (take (i + 1) (set ms i m)) after
front_more text rest after ms i m h f g ns k = rw (take_more_set ms i m h, append_assoc) (f (m ∷ ns) (after, g, k))

next_field : (text rest : List ℕ) (n i : ℕ) → i < n → Back text n i rest → (ns : List ℕ) → length ns ≡ n → Fields text ns → Fields rest (get_or ns i 0 ∷ drop (i + 1) ns)
next_field text rest n i h b ns l f = subst (λ (ms : List ℕ). Fields rest ms) (drop_more ns i 0 (omega arith)) (b ns l f)

pub back_more : (text rest after : List ℕ) (n i m : ℕ) → i < n → Back text n i rest → Field rest m after → Back text n (i + 1) after
back_more text rest after n i m h b g ns l f =
    let k = next_field text rest n i h b ns l f in
    let e = field_once rest (get_or ns i 0) m k.0 after k.1 g in
    subst (λ (r : List ℕ). Fields r (drop (i + 1) ns)) e.1 k.2

-- the rest begins with no field, though numbers are wanted
pub back_stuck : (text rest : List ℕ) (n i : ℕ) → i < n → Back text n i rest → ((m : ℕ) (after : List ℕ) → Field rest m after → ⊥) → (ns : List ℕ) → length ns ≡ n → Fields text ns → ⊥
back_stuck text rest n i h b x ns l f = let k = next_field text rest n i h b ns l f in x (get_or ns i 0) k.0 k.1

pub front_all : (text rest ms : List ℕ) (n i : ℕ) → length ms ≡ n → n ≤ i → length rest ≡ 0 → Front text (take i ms) rest → Fields text (listed n ms)
front_all text rest ms n i l h z f =
    let e = fill_by_all (λ k. get_or ms k 0) ms n 0 l (λ k m. refl) in
    let t = take_all i ms (omega arith) in rw (← e, ← t, ← append-nil (take i ms)) (f [] (nil_from_length rest z))
