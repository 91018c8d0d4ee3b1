-- A text has one first line, which ends before the first byte 10, and the text after it is shorter.
use Rattle.std.proofs.Common.{◌≡◌, ℕ, ◌+◌, ◌<◌, ◌≢◌, List, [], ◌∷◌, ◌++◌, length, get_or, take, drop, sym, refl, ap, ◌∙◌, subst, inl, inr, arith, length-append, take-append-drop, All}
use Rattle.std.proofs.lemmas.List.Elements.{All-head, All-tail, All-from_get_or}
use Rattle.std.proofs.lemmas.List.{drop_more, get_or-take, length-take-le}
use Rattle.book.specs.Lines.{newline, FirstLine, Lines, OneSplit}

abbrev Unbroken : List ℕ → Type 0
Unbroken line = All (λ b. b ≢ newline) line

not_empty : (text : List ℕ) → 0 < length text → text ≢ []
not_empty text h e = omega (arith, ap length e)

-- a byte 10 at `end`, and none before it
pub line_before : (text : List ℕ) (end : ℕ) → end < length text → ((k : ℕ) → k < end → get_or text k 0 ≡ newline → ⊥) → get_or text end 0 ≡ newline → FirstLine text (take end text) (drop (end + 1) text)
line_before text end h b e =
    let l = length-take-le end text (omega arith) in
    let d : drop end text ≡ newline ∷ drop (end + 1) text = rw (← e) (drop_more text end 0 h) in
    record {
      some = not_empty text (omega arith);
      unbroken = All-from_get_or (λ b. b ≢ newline) (take end text) 0 (λ k m. let n : k < end = omega arith in rw get_or-take (b k n));
      parts = inl (sym (take-append-drop end text) ∙ ap (λ (rest : List ℕ). take end text ++ rest) d);
    }

-- no byte 10 at all
pub line_whole : (text : List ℕ) → 0 < length text → ((k : ℕ) → k < length text → get_or text k 0 ≡ newline → ⊥) → FirstLine text text []
line_whole text h b = record { some = not_empty text h; unbroken = All-from_get_or (λ b. b ≢ newline) text 0 b; parts = inr (refl, refl) }

pub rest_shorter : (text line rest : List ℕ) → FirstLine text line rest → length rest < length text
rest_shorter text line rest f =
    elim f.parts [
      | inl e ↦ omega (arith, simp length-append at (ap length e))
      | inr e ↦ rest_of_last text rest f.some e.1
    ]
  where
    rest_of_last : (text rest : List ℕ) → text ≢ [] → rest ≡ [] → length rest < length text
    rest_of_last [] rest h e = absurd (h refl)
    rest_of_last (b ∷ text) rest h e = omega (arith, ap length e)

-- a line goes up to the first byte 10 and no further
cut_once : (l m r s : List ℕ) → Unbroken l → Unbroken m → l ++ (newline ∷ r) ≡ m ++ (newline ∷ s) → (l ≡ m) × (r ≡ s)
cut_once [] [] r s h k e = (refl, cc)
cut_once [] (b ∷ m) r s h k e = absurd (All-head (λ c. c ≢ newline) b m k cc)
cut_once (b ∷ l) [] r s h k e = absurd (All-head (λ c. c ≢ newline) b l h cc)
cut_once (b ∷ l) (d ∷ m) r s h k e =
    let t : l ++ (newline ∷ r) ≡ m ++ (newline ∷ s) = cc in
    let p = cut_once l m r s (All-tail (λ c. c ≢ newline) b l h) (All-tail (λ c. c ≢ newline) d m k) t in (cc (p.0, e), p.1)

broken : (l r : List ℕ) → Unbroken (l ++ (newline ∷ r)) → ⊥
broken [] r h = All-head (λ c. c ≢ newline) newline r h refl
broken (b ∷ l) r h = broken l r (All-tail (λ c. c ≢ newline) b (l ++ (newline ∷ r)) h)

first_line_once : (text l m r s : List ℕ) → FirstLine text l r → FirstLine text m s → (l ≡ m) × (r ≡ s)
first_line_once text l m r s f g =
    elim f.parts [
      | inl a ↦ elim g.parts [
        | inl b ↦ cut_once l m r s f.unbroken g.unbroken (sym a ∙ b)
        | inr b ↦ absurd (broken l r (subst Unbroken (sym b.0 ∙ a) g.unbroken))
      ]
      | inr a ↦ elim g.parts [
        | inl b ↦ absurd (broken m s (subst Unbroken (sym a.0 ∙ b) f.unbroken))
        | inr b ↦ (sym a.0 ∙ b.0, a.1 ∙ sym b.1)
      ]
    ]

pub one_split : OneSplit
one_split text [] [] f g = refl
one_split text [] (m ∷ ms) f g = absurd (g.1.some f)
one_split text (l ∷ ls) [] f g = absurd (f.1.some g)
one_split text (l ∷ ls) (m ∷ ms) f g =
    let p = first_line_once text l m f.0 g.0 f.1 g.1 in
    let e = one_split g.0 ls ms (subst (λ (rest : List ℕ). Lines rest ls) p.1 f.2) g.2 in
    cc (p.0, e)
