-- Where a completion leads, by the statements around it. For proofs/Semantics, Resolve and State.
use Prim.Native.Nat.{ℕ}
use mathlib.Core.List.{List, [], ◌∷◌}
use mathlib.Core.Option.{Option, none, some}
use mathlib.Core.Bool.{Bool, true, false, cond}
use lib.Dec.{eqb}
use Rattle.definition.specs.Completion.{Completion, normal, break, continue, stop}

-- the statements around, from the innermost
pub data Frame : Type 0 where
  in_label : (ft : ℕ) → Frame
  in_scope : (ft : ℕ) → Frame
  -- its fallthrough, and where it continues
  in_loop : (ft again : ℕ) → Frame
  in_switch : (ft : ℕ) → Frame
  -- a switch whose end is not reached
  in_open : Frame
  -- an earlier case of a switch is built, and a normal completion leads on to the block of this one
  in_case : (next : ℕ) → Frame

abbrev pub exit : List Frame → Option ℕ
exit [] = none
exit (in_label l ∷ F) = some l
exit (in_scope l ∷ F) = some l
exit (in_loop l k ∷ F) = some k
exit (in_switch l ∷ F) = some l
exit (in_open ∷ F) = exit F
exit (in_case k ∷ F) = some k

abbrev pub break_out : List Frame → Option ℕ
break_out [] = none
break_out (in_label l ∷ F) = break_out F
break_out (in_scope l ∷ F) = break_out F
break_out (in_loop l k ∷ F) = some l
break_out (in_switch l ∷ F) = some l
break_out (in_open ∷ F) = none
break_out (in_case k ∷ F) = break_out F

abbrev pub continue_out : List Frame → Option ℕ
continue_out [] = none
continue_out (in_label l ∷ F) = continue_out F
continue_out (in_scope l ∷ F) = continue_out F
continue_out (in_loop l k ∷ F) = some k
continue_out (in_switch l ∷ F) = continue_out F
continue_out (in_open ∷ F) = continue_out F
continue_out (in_case k ∷ F) = continue_out F

abbrev pub break_at : List Frame → ℕ → Option ℕ
break_at [] t = none
break_at (in_label l ∷ F) t = cond (eqb l t) (some l) (break_at F t)
break_at (in_scope l ∷ F) t = break_at F t
break_at (in_loop l k ∷ F) t = cond (eqb l t) (some l) (break_at F t)
break_at (in_switch l ∷ F) t = cond (eqb l t) (some l) (break_at F t)
break_at (in_open ∷ F) t = break_at F t
break_at (in_case k ∷ F) t = break_at F t

abbrev pub continue_at : List Frame → ℕ → Option ℕ
continue_at [] t = none
continue_at (in_label l ∷ F) t = continue_at F t
continue_at (in_scope l ∷ F) t = continue_at F t
continue_at (in_loop l k ∷ F) t = cond (eqb l t) (some k) (continue_at F t)
continue_at (in_switch l ∷ F) t = continue_at F t
continue_at (in_open ∷ F) t = continue_at F t
continue_at (in_case k ∷ F) t = continue_at F t

abbrev pub is_open : Frame → Bool
is_open (in_label l) = false
is_open (in_scope l) = false
is_open (in_loop l k) = false
is_open (in_switch l) = false
is_open in_open = true
is_open (in_case k) = false

abbrev pub target : List Frame → Completion → Option ℕ
target F normal = exit F
target F (break none j) = break_out F
target F (break (some t) j) = break_at F t
target F (continue none j) = continue_out F
target F (continue (some t) j) = continue_at F t
target F (stop r) = none
