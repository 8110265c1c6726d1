-- What holds of a step's result, whether it is refused or not, and what an accepted step tells of its parts: for every proof over the walks.
use mathlib.Core.Path.{◌≡◌, refl}
use Prim.Native.Nat.{ℕ}
use native.Mathlib.Omega.{arith}
use mathlib.Core.Option.{Option, none, some}
use mathlib.Core.Bool.{Bool, true, false, ◌&&◌}
use lib.Dec.{T, leb}
use Rattle.definition.specs.Result.{Result, ok, refused, ◌>>=◌, refuse_if}

pub true_false : true ≡ false → ⊥
true_false e = let z : ◌≡◌ {A = ℕ} 0 1 = cc in omega arith

pub none_some : {A : Type 0} {a : A} → ◌≡◌ {A = Option A} none (some a) → ⊥
none_some e = let z : ◌≡◌ {A = ℕ} 0 1 = cc in omega arith

pub some_eq : {A : Type 0} {a b : A} → some a ≡ some b → a ≡ b
some_eq e = cc

-- ---- an accepted step

pub refused_ok : {A : Type 0} {code at visits : ℕ} {a : A} → refused code at visits ≡ ok a → ⊥
refused_ok e = let z : ◌≡◌ {A = ℕ} 0 1 = cc in omega arith

pub ok_eq : {A : Type 0} {a b : A} → ok a ≡ ok b → a ≡ b
ok_eq e = cc

pub bind_ok : {A B : Type 0} (step : Result A) (next : A → Result B) (b : B) → (step >>= next) ≡ ok b → (a : A) × (step ≡ ok a) × (next a ≡ ok b)
unfolding ◌>>=◌
bind_ok (ok a) next b e = (a, refl, e)
bind_ok (refused code at visits) next b e = absurd (refused_ok e)

pub unless_ok : (test : Bool) (code at visits : ℕ) (unit : Unit {0}) → refuse_if test code at visits ≡ ok unit → test ≡ false
unfolding refuse_if
unless_ok true code at visits unit e = absurd (refused_ok e)
unless_ok false code at visits unit e = refl

-- ---- any step: P of its result, or C of its refusal's code and visits

abbrev Holds : {A : Type 0} → (C : (code visits : ℕ) → Type 0) → (P : A → Type 0) → Result A → Type 0
Holds C P (ok a) = P a
Holds C P (refused code at visits) = C code visits

holds_bind : {A B : Type 0} (C : (code visits : ℕ) → Type 0) (P : A → Type 0) (Q : B → Type 0) (step : Result A) (next : A → Result B)
    → Holds C P step → ((a : A) → P a → Holds C Q (next a)) → Holds C Q (step >>= next)
unfolding ◌>>=◌
holds_bind C P Q (ok a) next h k = k a h
holds_bind C P Q (refused code at visits) next h k = h

holds_unless : {B : Type 0} (C : (code visits : ℕ) → Type 0) (Q : B → Type 0) (test : Bool) (code at visits : ℕ) (next : Unit {0} → Result B)
    → C code visits → (test ≡ false → Holds C Q (next tt)) → Holds C Q (refuse_if test code at visits >>= next)
unfolding ◌>>=◌ refuse_if
holds_unless C Q true code at visits next c k = c
holds_unless C Q false code at visits next c k = k refl

abbrev pub Any : {A : Type 0} → A → Type 0
Any a = Unit {0}

-- ---- of the result, if there is one

abbrev NoMatter : (code visits : ℕ) → Type 0
NoMatter code visits = Unit {0}

abbrev pub Good : {A : Type 0} → (A → Type 0) → Result A → Type 0
Good P step = Holds NoMatter P step

pub good_bind : {A B : Type 0} (P : A → Type 0) (Q : B → Type 0) (step : Result A) (next : A → Result B)
    → Good P step → ((a : A) → P a → Good Q (next a)) → Good Q (step >>= next)
good_bind P Q step next h k = holds_bind NoMatter P Q step next h k

pub good_unless : {B : Type 0} (Q : B → Type 0) (test : Bool) (code at visits : ℕ) (next : Unit {0} → Result B)
    → (test ≡ false → Good Q (next tt)) → Good Q (refuse_if test code at visits >>= next)
good_unless Q test code at visits next k = holds_unless NoMatter Q test code at visits next tt k

-- a test with two ways on
pub good_pick : {A : Type 0} (P : A → Type 0) (test : Bool) (yes_step no_step : Result A)
    → Good P yes_step → Good P no_step → Good P (elim test [ true ↦ yes_step | false ↦ no_step ])
good_pick P true yes_step no_step h k = h
good_pick P false yes_step no_step h k = k

pub good_any : {A : Type 0} (step : Result A) → Good Any step
good_any (ok a) = tt
good_any (refused code at visits) = tt

-- ---- of the result, and every refusal is one that paper 01 gives to a table: "10 missing block" to "31 visits"

abbrev pub of_paper : ℕ → Bool
of_paper code = leb 10 code && leb code 31

abbrev OfPaper : (code visits : ℕ) → Type 0
OfPaper code visits = T (of_paper code)

abbrev pub Fine : {A : Type 0} → (A → Type 0) → Result A → Type 0
Fine P step = Holds OfPaper P step

pub fine_bind : {A B : Type 0} (P : A → Type 0) (Q : B → Type 0) (step : Result A) (next : A → Result B)
    → Fine P step → ((a : A) → P a → Fine Q (next a)) → Fine Q (step >>= next)
fine_bind P Q step next h k = holds_bind OfPaper P Q step next h k

pub fine_unless : {B : Type 0} (Q : B → Type 0) (test : Bool) (code at visits : ℕ) (next : Unit {0} → Result B)
    → T (of_paper code) → (test ≡ false → Fine Q (next tt)) → Fine Q (refuse_if test code at visits >>= next)
fine_unless Q test code at visits next c k = holds_unless OfPaper Q test code at visits next c k

pub fine_pick : {A : Type 0} (P : A → Type 0) (test : Bool) (yes_step no_step : Result A)
    → (test ≡ true → Fine P yes_step) → (test ≡ false → Fine P no_step) → Fine P (elim test [ true ↦ yes_step | false ↦ no_step ])
fine_pick P true yes_step no_step f g = f refl
fine_pick P false yes_step no_step f g = g refl

pub fine_map : {A : Type 0} (P Q : A → Type 0) (step : Result A) → ((a : A) → P a → Q a) → Fine P step → Fine Q step
fine_map P Q (ok a) f h = f a h
fine_map P Q (refused code at visits) f h = h

pub fine_good : {A : Type 0} (P Q : A → Type 0) (step : Result A) → ((a : A) → P a → Q a) → Fine P step → Good Q step
fine_good P Q (ok a) f h = f a h
fine_good P Q (refused code at visits) f h = tt

-- ---- Q of the count of visits, of the result and of a refusal

-- `of` is a result's count
abbrev pub Counted : {A : Type 0} → (Q : ℕ → Type 0) → (of : A → ℕ) → Result A → Type 0
Counted Q of step = Holds (λ code visits. Q visits) (λ a. Q (of a)) step

pub counted_bind : {A B : Type 0} (Q : ℕ → Type 0) (f : A → ℕ) (g : B → ℕ) (step : Result A) (next : A → Result B)
    → Counted Q f step → ((a : A) → Q (f a) → Counted Q g (next a)) → Counted Q g (step >>= next)
counted_bind Q f g step next h k = holds_bind (λ code visits. Q visits) (λ a. Q (f a)) (λ b. Q (g b)) step next h k

pub counted_unless : {B : Type 0} (Q : ℕ → Type 0) (g : B → ℕ) (test : Bool) (code at visits : ℕ) (next : Unit {0} → Result B)
    → Q visits → (test ≡ false → Counted Q g (next tt)) → Counted Q g (refuse_if test code at visits >>= next)
counted_unless Q g test code at visits next h k = holds_unless (λ code visits. Q visits) (λ b. Q (g b)) test code at visits next h k

pub counted_pick : {A : Type 0} (Q : ℕ → Type 0) (f : A → ℕ) (test : Bool) (yes_step no_step : Result A)
    → (test ≡ true → Counted Q f yes_step) → (test ≡ false → Counted Q f no_step) → Counted Q f (elim test [ true ↦ yes_step | false ↦ no_step ])
counted_pick Q f true yes_step no_step h k = h refl
counted_pick Q f false yes_step no_step h k = k refl

-- ---- two ways on after a step, which are the same for what holds of its result

pub good_same : {A B : Type 0} (P : A → Type 0) (step : Result A) (f g : A → Result B) → Good P step → ((a : A) → P a → f a ≡ g a) → step >>= f ≡ step >>= g
unfolding ◌>>=◌
good_same P (ok a) f g h e = e a h
good_same P (refused code at visits) f g h e = refl

pub counted_good : {A : Type 0} (Q : ℕ → Type 0) (f : A → ℕ) (step : Result A) → Counted Q f step → Good (λ a. Q (f a)) step
counted_good Q f (ok a) h = h
counted_good Q f (refused code at visits) h = tt
