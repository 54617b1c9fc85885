-- What stood for some bins of a slice stands for one more.
use Rattle.std.proofs.Common.{◌≡◌, ℕ, ◌-◌, ◌*◌, ◌^◌, Bool, true, false, cond, List, [], ◌∷◌, ◌++◌, refl, sym, ap, ap₂, ◌∙◌, subst, arith, pow-add, mul-le-mul_right}
use Rattle.std.specs.Prelude.{slice_set}
use Rattle.std.proofs.lemmas.Bool.{cond-true}
use mathlib.Core.Bool.{beq}
use Rattle.hv_tables.specs.declared.bins.SliceKind.{SliceKind}
use Rattle.hv_tables.specs.declared.bins.Ctx.{Ctx}
use Rattle.hv_tables.specs.Bins.{Question, Context, Terminate, Bin}
use Rattle.hv_entropy_model.specs.Contexts.{ContextVariable, variable_at, with_variable, lps_width, next_variable, first_variables}
use Rattle.hv_tables.specs.ContextTables.{place_of}
use Rattle.hv_lemmas.specs.Booleans.{same}
use Rattle.hv_entropy_model.specs.CodeWord.{Cut, cut, cut_at, part, next_variables, is_last, Interval, first_interval, cut_to, advance, reach, IsSound}
use Rattle.hv_entropy_model.specs.IntervalLaws.{IsWithin}
use Rattle.hv_entropy_model.proofs.IntervalLemmas.{cut_within}
use Rattle.hv_cabac.specs.Registers.{Holds, Cuts}
use Rattle.hv_cabac.specs.Encoding.{Stands, StandsFor}
use Rattle.hv_cabac.specs.declared.register.Register.{Register}

-- ---- one more bin at the end of a list
append-nil : (bins : List Bin) (b : Bin) → bins ++ b ∷ [] ≡ [] → ⊥
append-nil [] b e = cc
append-nil (c ∷ bins) b e = cc

-- the list without it is sound too, and the interval goes on from there
pub record GoesOn (bins : List Bin) (b : Bin) (i : Interval) : Type 0 where
  pub sound : IsSound bins
  pub reached : reach i (bins ++ b ∷ []) ≡
      cond (is_last b.question b.value) (reach i bins) (advance (reach i bins) b)

goes_on_case : (c : Bin) (bins : List Bin) (b : Bin) (i : Interval) →
    IsSound (c ∷ (bins ++ b ∷ [])) → (IsSound (bins ++ b ∷ []) → GoesOn bins b (advance i c)) →
    (t : Bool) → is_last c.question c.value ≡ t → GoesOn (c ∷ bins) b i
goes_on_case c bins b i h ih true e = absurd (append-nil bins b (rw e at h))
goes_on_case c bins b i h ih false e =
    let r = ih (rw e at h) in record { sound = rw e r.sound; reached = rw e r.reached }

goes_on : (bins : List Bin) (b : Bin) (i : Interval) → IsSound (bins ++ b ∷ []) → GoesOn bins b i
goes_on [] b i h = record { sound = tt; reached = refl }
goes_on (c ∷ bins) b i h =
    goes_on_case c bins b i h (λ k. goes_on bins b (advance i c) k) (is_last c.question c.value)
    refl

-- ---- one more bin in the register
holds_more : (old new : Register) (i : Interval) (b : Bin) → is_last b.question b.value ≡ false →
    Holds old i → Cuts old new (cut i.variables old.range b.question b.value) →
    Holds new (advance i b)
holds_more old new i b last h k =
    let later : List ContextVariable = next_variables i.variables b.question b.value in
    let c : Cut = cut i.variables old.range b.question b.value in
    let w : IsWithin old.range c =
    cut_within i.variables old.range b.question b.value old.wide old.narrow last in
    let m = mul-le-mul_right (2 ^ c.times) h.inside in
    let r : i.range * 2 ^ c.times ≡ old.range * 2 ^ c.times =
    ap (λ (x : ℕ). x * 2 ^ c.times) h.width in
    let low = k.low i.n (sym h.places) (omega (arith, h.inside, h.low, h.width)) in
    let there : Holds new (cut_to i c later) = record {
      low = rw h.low (sym low);
      width = sym k.range;
      places = omega (arith, k.places, h.places);
      inside = rw (pow-add 2 i.n c.times) (omega (arith, m, w.inside, r));
    } in
    let P : ℕ → Type 0 =
    λ r. Holds new (cut_to i (cut i.variables r b.question b.value) later) in
    subst P (sym h.width) there

pub stands_more : (old new : Register) (before after : List ContextVariable) (kind : SliceKind)
    (qp : ℕ) (bins : List Bin) (q : Question) (v : Bool) → is_last q v ≡ false →
    StandsFor old before kind qp bins →
    (new.failed ≡ false → Cuts old new (cut before old.range q v)) →
    after ≡ next_variables before q v →
    StandsFor new after kind qp (bins ++ record { question = q; value = v } ∷ [])
stands_more old new before after kind qp bins q v last stood kept adapted fine sound =
    let b : Bin = record { question = q; value = v } in
    let first : Interval = first_interval (first_variables kind qp) in
    let i : Interval = reach first bins in
    let on = goes_on bins b first sound in
    let k = kept fine in
    let s = stood k.held on.sound in
    let k_there : Cuts old new (cut i.variables old.range q v) =
    subst (λ (x : List ContextVariable). Cuts old new (cut x old.range q v)) (sym s.adapted) k in
    let there : Stands new after (advance i b) = record {
      interval = holds_more old new i b last s.interval k_there;
      adapted = ap (λ (x : List ContextVariable). next_variables x q v) s.adapted ∙ sym adapted;
    } in
    let e : reach first (bins ++ b ∷ []) ≡ advance i b = rw last at on.reached in
    subst (λ (x : Interval). Stands new after x) (sym e) there

-- the bin that ends the slice changes nothing yet
pub stands_ended : (r : Register) (variables : List ContextVariable) (kind : SliceKind) (qp : ℕ)
    (bins : List Bin) (v : Bool) → v ≡ true → StandsFor r variables kind qp bins →
    StandsFor r variables kind qp (bins ++ record { question = Terminate; value = v } ∷ [])
stands_ended r variables kind qp bins v h stood fine sound =
    let b : Bin = record { question = Terminate; value = v } in
    let first : Interval = first_interval (first_variables kind qp) in
    let i : Interval = reach first bins in
    let on = goes_on bins b first sound in
    let e : reach first (bins ++ b ∷ []) ≡ i = on.reached ∙ cond-true v i (advance i b) h in
    subst (λ (x : Interval). Stands r variables x) (sym e) (stood fine on.sound)

-- ---- a bin before terminate, of either value
pub stands_terminate : (old new : Register) (variables : List ContextVariable) (kind : SliceKind)
    (qp : ℕ) (bins : List Bin) (v : Bool) → StandsFor old variables kind qp bins →
    (v ≡ false → new.failed ≡ false → Cuts old new (part 0 (old.range - 2))) →
    (v ≡ true → new ≡ old) →
    StandsFor new variables kind qp (bins ++ record { question = Terminate; value = v } ∷ [])
stands_terminate old new variables kind qp bins false stood goes_on ends =
    stands_more old new variables variables kind qp bins Terminate false refl stood (goes_on refl)
    refl
stands_terminate old new variables kind qp bins true stood goes_on ends =
    let b : Bin = record { question = Terminate; value = true } in
    subst (λ (r : Register). StandsFor r variables kind qp (bins ++ b ∷ [])) (sym (ends refl))
    (stands_ended old variables kind qp bins true refl stood)

-- a bin with a context, from what the code computed
pub context_cuts : (old new : Register) (variables : List ContextVariable) (context : Ctx)
    (x : ContextVariable) (lps : ℕ) (v probable : Bool) →
    Cuts old new (cut_at old.range lps probable) → x ≡ variable_at variables context →
    lps ≡ lps_width x old.range → probable ≡ same v x.valMps →
    Cuts old new (cut variables old.range (Context context) v)
context_cuts old new variables context x lps v probable k e f g =
    let P : ContextVariable → Type 0 =
    λ y. Cuts old new (cut_at old.range (lps_width y old.range) (same v y.valMps)) in
    let with_lps : Cuts old new (cut_at old.range (lps_width x old.range) probable) =
    subst (λ (l : ℕ). Cuts old new (cut_at old.range l probable)) f k in
    let with_part : P x =
    subst (λ (p : Bool). Cuts old new (cut_at old.range (lps_width x old.range) p)) g with_lps in
    subst P e with_part

-- the variables, with the state that the code put
pub variables_adapt : (before after : List ContextVariable) (context : Ctx) (x y : ContextVariable)
    (place : ℕ) (v : Bool) → place ≡ place_of context → x ≡ variable_at before context →
    after ≡ slice_set before place y → y ≡ next_variable x v →
    after ≡ with_variable before context (next_variable (variable_at before context) v)
variables_adapt before after context x y place v e f g h =
    let next : y ≡ next_variable (variable_at before context) v =
    h ∙ ap (λ (z : ContextVariable). next_variable z v) f in
    g ∙ ap₂ (λ (i : ℕ) (z : ContextVariable). slice_set before i z) e next

pub same_test : (v w : Bool) → beq v w ≡ same v w
same_test true true = refl
same_test true false = refl
same_test false true = refl
same_test false false = refl
