-- A run of calls, one call at a time.
use Rattle.std.proofs.Common.{◌≡◌, ℕ, ◌+◌, ◌<◌, ◌≤◌, min, List, [], ◌∷◌, ◌++◌, map, length, get_or, take, drop, set, slice_get, Some, None, Result, ◌⊎◌, inl, inr, sym, refl, ap, ◌∙◌, subst, arith, drop-drop, drop-set-lt}
use mathlib.Core.List.{map-append}
use Rattle.std.proofs.lemmas.Option.{slice_get_cases, slice_get_within, get_or_from_slice_get}
use Rattle.std.proofs.lemmas.List.{take_more, take_more_set}
use Rattle.grade.specs.Kind.{Kind, Laws}
use Rattle.treap.specs.Plants.{plant}
use Rattle.treap.specs.Entries.{plan_square}
use Rattle.treap.specs.Ledgers as ledgers
use Rattle.plan.specs.declared.place.Place.{Place}
use Rattle.plan.specs.declared.run.Call.{Call}
use Rattle.plan.specs.declared.run.Answer.{Answer}
use Rattle.plan.specs.declared.refusal.PlanRefusal.{PlanRefusal}
use Rattle.plan.specs.Plans.{Layout, Sound, ledger}
use Rattle.plan.specs.Runs.{call_of, answer_of, carried, Ran}
use Rattle.plan.proofs.Shapes.{recorded, lawful}

pub none_at : {X : Type 0} (xs : List X) (i : ℕ) → None ≡ slice_get xs i → length xs ≤ i
none_at xs i e = go (slice_get_cases xs i).1
  where
    go : ((x : _) × (i < length xs) × (slice_get xs i ≡ Some x) × (get_or xs i x ≡ x)) ⊎ ((length xs ≤ i) × (slice_get xs i ≡ None)) → length xs ≤ i
    go (inl h) = let s = h.2 in let z : ◌≡◌ {A = ℕ} 0 1 = cc in absurd (omega arith)
    go (inr h) = h.0

drop_next : {A : Type 0} (l r : List A) (i : ℕ) → drop i l ≡ drop i r → drop (i + 1) l ≡ drop (i + 1) r
drop_next l r i e = sym (drop-drop 1 i l) ∙ ap (drop 1) e ∙ drop-drop 1 i r

-- one call more
after_push : (l : ledgers.Ledger) (cs : List ledgers.Call) (c : ledgers.Call) → ledgers.after l (cs ++ c ∷ []) ≡ ledgers.next (ledgers.after l cs) c
after_push l [] c = refl
after_push l (d ∷ cs) c = after_push (ledgers.next l d) cs c

answers_push : (l : ledgers.Ledger) (cs : List ledgers.Call) (c : ledgers.Call) → ledgers.answers l (cs ++ c ∷ []) ≡ ledgers.answers l cs ++ ledgers.answer (ledgers.after l cs) c ∷ []
answers_push l [] c = refl
answers_push l (d ∷ cs) c = ap (λ r. ledgers.answer l d ∷ r) (answers_push (ledgers.next l d) cs c)

after_level : (l : ledgers.Ledger) (cs : List ledgers.Call) → (ledgers.after l cs).level ≡ l.level
after_level l [] = refl
after_level l (c ∷ cs) = after_level (ledgers.next l c) cs ∙ same c
  where
    changed_level : (c : ledgers.Call) → (ledgers.changed l c).level ≡ l.level
    changed_level (ledgers.enter m) = refl
    changed_level (ledgers.regrade m) = refl
    changed_level (ledgers.strike row col) = refl
    changed_level (ledgers.look row col) = refl

    same : (c : ledgers.Call) → (ledgers.next l c).level ≡ l.level
    same c = elim (ledgers.refusal l c) as (λ o. (ledgers.next_as l c o).level ≡ l.level) [ None ↦ changed_level c | Some n ↦ refl ]

-- the first i calls are carried out
pub record Running {G : Type 0} (code : G → ℕ) (l : ledgers.Ledger) (calls : List (Call G)) (before : List (Result (Answer G) PlanRefusal)) (i : ℕ) (p : Layout (Place G)) (answers : List (Result (Answer G) PlanRefusal)) : Type 0 where
  pub within : i ≤ length calls
  pub followed : ledger code p ≡ ledgers.after l (map (call_of code) (take i calls))
  pub answered : map (answer_of code) (take i answers) ≡ ledgers.answers l (map (call_of code) (take i calls))
  pub beyond : drop i answers ≡ drop i before

module _ {G : Type 0} (code : G → ℕ) (l : ledgers.Ledger) (calls : List (Call G)) (before : List (Result (Answer G) PlanRefusal)) where
  pub one_more_call : (i : ℕ) (p q : Layout (Place G)) (answers : List (Result (Answer G) PlanRefusal)) (c : Call G) (a : Result (Answer G) PlanRefusal)
      → Running code l calls before i p answers
      → Some c ≡ slice_get calls i
      → i < length answers
      → answer_of code a ≡ ledgers.answer (ledger code p) (call_of code c)
      → ledger code q ≡ ledgers.next (ledger code p) (call_of code c)
      → Running code l calls before (i + 1) q (set answers i a)
  one_more_call i p q answers c a r read high ea el =
      record {
        within = omega (arith, low);
        followed = el ∙ ap (λ (x : ledgers.Ledger). ledgers.next x (call_of code c)) r.followed ∙ sym (after_push l (map (call_of code) (take i calls)) (call_of code c)) ∙ ap (ledgers.after l) (sym grown);
        answered =
            ap (map (answer_of code)) (take_more_set answers i a high)
            ∙ map-append (answer_of code) (take i answers) (a ∷ [])
            ∙ ap (λ (x : List ledgers.Answer). x ++ answer_of code a ∷ []) r.answered
            ∙ ap (λ (x : ledgers.Answer). ledgers.answers l (map (call_of code) (take i calls)) ++ x ∷ []) (ea ∙ ap (λ (x : ledgers.Ledger). ledgers.answer x (call_of code c)) r.followed)
            ∙ sym (answers_push l (map (call_of code) (take i calls)) (call_of code c))
            ∙ ap (ledgers.answers l) (sym grown);
        beyond = drop-set-lt (i + 1) answers i a (omega arith) ∙ drop_next answers before i r.beyond;
      }
    where
      low : i < length calls
      low = slice_get_within calls i c (sym read)

      grown : map (call_of code) (take (i + 1) calls) ≡ map (call_of code) (take i calls) ++ call_of code c ∷ []
      grown =
          ap (map (call_of code)) (take_more calls i c low)
          ∙ map-append (call_of code) (take i calls) (get_or calls i c ∷ [])
          ∙ ap (λ (x : Call G). map (call_of code) (take i calls) ++ call_of code x ∷ []) (get_or_from_slice_get calls i c c (sym read))

  pub ran_all : {kind : Kind} → Laws kind → (n : ℕ) (p : Layout (Place G)) (answers : List (Result (Answer G) PlanRefusal)) → Sound kind code p → n ≡ min (length calls) (length before) → Running code l calls before n p answers → Ran kind code l calls before answers p
  ran_all {kind} laws n p answers s e r₀ =
      record {
        sound = s;
        followed = r.followed;
        answered = r.answered;
        beyond = r.beyond;
        lawful = lawful s;
        planted =
            (recorded s laws).planted
            ∙ ap (λ (x : ledgers.Ledger). plant kind (plan_square x.level) (ledgers.entries x)) r.followed
            ∙ ap (λ (x : ℕ). plant kind (plan_square x) (ledgers.entries (ledgers.after l (carried code calls (length before))))) (after_level l (carried code calls (length before)));
      }
    where
      r : Running code l calls before (min (length calls) (length before)) p answers
      r = subst (λ (x : ℕ). Running code l calls before x p answers) e r₀
