-- For the reader: a table is not malformed exactly if it is a run of names, each with its length byte of 1 to 32 before it,
-- and the names that are read from a run are those that it was made of.
use Prim.Native.Nat.{ℕ, zero, suc, ◌+◌}
use native.Mathlib.Nat.{add-zero}
use native.Mathlib.Omega.{arith}
use mathlib.Core.Path.{◌≡◌, refl, sym, ap, ap₂, ◌∙◌, subst}
use mathlib.Core.Bool.{Bool, true, false, not, ◌&&◌}
use mathlib.Core.List.{List, [], ◌∷◌, ◌++◌, map, append_assoc}
use lib.ListN.{length, take, drop, length-append, take-append-drop}
use lib.Seq.{take_at, drop_at, drop-nil, length-take-le}
use borrow.Author.Tests.{not-true}
use Rattle.model.proofs.Booleans.{yes_left, yes_right, both_yes, no_or}
use Rattle.names.specs.declared.Table.{Table}
use Rattle.names.specs.Names.{bad_length, malformed_from, malformed, names_from, names, bytes}
use Rattle.names.proofs.Reading.{fits_rest}

-- a run of names, each behind its length byte
pub run : List (List ℕ) → List ℕ
run [] = []
run (w ∷ ws) = length w ∷ (w ++ run ws)

-- every name is 1 to 32 bytes long
pub sized : List (List ℕ) → Bool
sized [] = true
sized (w ∷ ws) = not (bad_length (length w)) && sized ws

pass_name : (w t : List ℕ) → malformed_from (length w) (w ++ t) ≡ malformed t
unfolding malformed_from
pass_name [] t = refl
pass_name (b ∷ bs) t = pass_name bs t

-- a run of names of 1 to 32 bytes each is not malformed
pub run_sound : (ws : List (List ℕ)) → sized ws ≡ true → malformed (run ws) ≡ false
unfolding malformed_from run sized
run_sound [] h = refl
run_sound (w ∷ ws) h =
    rw (not-true (bad_length (length w)) (yes_left (not (bad_length (length w))) (sized ws) h), pass_name w (run ws))
    (run_sound ws (yes_right (not (bad_length (length w))) (sized ws) h))

-- what is read past the end of a name that has begun
run_past : (t : List ℕ) (rest : ℕ) → malformed_from rest t ≡ false → (ws : List (List ℕ)) × (sized ws ≡ true) × (drop rest t ≡ run ws)
unfolding malformed_from run sized
run_past [] rest h = ([], refl, drop-nil rest)
run_past (b ∷ bs) zero h =
    let (good, more) = no_or (bad_length b) (malformed_from b bs) h in
    let (ws, ok, e) = run_past bs b more in
    let l : length (take b bs) ≡ b = length-take-le b bs (fits_rest b bs more) in
    (take b bs ∷ ws, both_yes {a = not (bad_length (length (take b bs)))} (rw (l, good)) ok, rw (l, sym e, take-append-drop b bs))
run_past (b ∷ bs) (suc rest) h = run_past bs rest h

-- a table that is not malformed is such a run
pub sound_run : (t : List ℕ) → malformed t ≡ false → (ws : List (List ℕ)) × (sized ws ≡ true) × (t ≡ run ws)
sound_run t h = run_past t 0 h

past_name : (k : Table) (from : ℕ) (w t : List ℕ) → names_from k from (length w) (w ++ t) ≡ names_from k (from + length w) 0 t
unfolding names_from
past_name k from [] t = rw (add-zero from)
past_name k from (b ∷ bs) t = past_name k (suc from) bs t ∙ ap (λ (n : ℕ). names_from k n 0 t) (over from (length bs))
  where
    over : (a l : ℕ) → suc a + l ≡ a + suc l
    over a l = omega arith

names_behind : (k : Table) (a : List ℕ) (ws : List (List ℕ)) → map (bytes (a ++ run ws)) (names_from k (length a) 0 (run ws)) ≡ ws
unfolding names_from run
names_behind k a [] = refl
names_behind k a (w ∷ ws) =
    let l : suc (length a) + length w ≡ length (a ++ (length w ∷ w)) = rw (length-append a (length w ∷ w)) (omega arith) in
    ap₂ ◌∷◌ head
    (rw (past_name k (suc (length a)) w (run ws), l)
    (subst (λ (t : List ℕ). map (bytes t) (names_from k (length (a ++ (length w ∷ w))) 0 (run ws)) ≡ ws) (append_assoc a (length w ∷ w) (run ws))
    (names_behind k (a ++ (length w ∷ w)) ws)))
  where
    one_more : length (a ++ (length w ∷ [])) ≡ suc (length a)
    one_more = rw (length-append a (length w ∷ [])) (omega arith)

    head : take (length w) (drop (suc (length a)) (a ++ (length w ∷ (w ++ run ws)))) ≡ w
    head =
        rw (sym (append_assoc a (length w ∷ []) (w ++ run ws)), drop_at (a ++ (length w ∷ [])) (w ++ run ws) (suc (length a)) one_more)
        (take_at w (run ws) (length w) refl)

-- the names that are read from a run are those that it was made of, byte for byte
pub names_of_run : (k : Table) (ws : List (List ℕ)) → map (bytes (run ws)) (names k (run ws)) ≡ ws
names_of_run k ws = names_behind k [] ws
