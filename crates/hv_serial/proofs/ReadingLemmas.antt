-- Which pictures are read, from how many bytes were taken.
use Rattle.std.proofs.Common.{◌≡◌, ℕ, ◌+◌, ◌-◌, ◌*◌, ◌/◌, ◌<◌, ◌≤◌, List, [], ◌∷◌, length, take, drop, refl, sym, ap, ◌∙◌, arith, length-drop, add-one, add-mul}
use Rattle.std.proofs.Math.Nat.{suc-mul, le-div_iff_mul-le}
use Rattle.std.specs.Prelude.{Option, Some}
use Rattle.std.proofs.lemmas.List.{drop-drop, length-take-le}
use Rattle.std.proofs.lemmas.Nat.{div-mul-add}
use Rattle.hv_lemmas.proofs.OptionLemmas.{some_same}
use Rattle.hv_types.specs.declared.settings.Settings.{Settings}
use Rattle.hv_types.specs.Configuration.{picture_bytes}
use Rattle.hv_lemmas.proofs.ListLemmas.{length-tabulate}
use Rattle.hv_serial.specs.Outcomes.{pictures_in, rest_in, pictures_read, whole_groups, group_count}
use Rattle.hv_serial.specs.Steps.{Took}

-- what is told of one state is one list
pub one_told : (o : Option (List ℕ)) (a b : List ℕ) → o ≡ Some a → o ≡ Some b → a ≡ b
one_told o a b e f = some_same a b (sym e ∙ f)

pub no_bytes : (bytes : List ℕ) → length bytes ≡ 0 → bytes ≡ []
no_bytes [] e = refl
no_bytes (x ∷ bytes) e = absurd (omega arith)

pub all_dropped : (n : ℕ) (bytes : List ℕ) → length bytes ≡ n → drop n bytes ≡ []
all_dropped n bytes e = no_bytes (drop n bytes) (omega (arith, e, length-drop n bytes))

-- the place behind one picture more
pub next_place : (k p : ℕ) → (k + 1) * p ≡ k * p + p
next_place k p = rw add-one (suc-mul k p)

-- .. and behind m more
pub places : (k m p : ℕ) → (k + m) * p ≡ k * p + m * p
places k m p = add-mul k m p

-- ---- what was taken, and then more

pub took_more : (n m : ℕ) (bytes : List ℕ) (mid now : Option (List ℕ)) → Took n bytes mid →
    Took m (drop n bytes) now → Took (n + m) bytes now
took_more n m bytes mid now h then = record {
  there = omega (arith, h.there, then.there, length-drop n bytes);
  left = then.left ∙ ap Some (drop-drop m n bytes);
}

-- ---- how many pictures were taken

-- of n bytes, which are k pictures and a part of one
pub quotient : (n k p r : ℕ) → n ≡ k * p + r → r < p → n / p ≡ k
quotient n k p r e few = ap (λ (m : ℕ). m / p) e ∙ div-mul-add k p r few

pub picture_number : (cfg : Settings) (bytes : List ℕ) (k r : ℕ) →
    length bytes ≡ k * picture_bytes cfg + r → r < picture_bytes cfg →
    length (pictures_in cfg bytes) ≡ k
picture_number cfg bytes k r e few =
    length-tabulate _ _ ∙ quotient (length bytes) k (picture_bytes cfg) r e few

-- at least so many
pub pictures_there : (cfg : Settings) (bytes : List ℕ) (k : ℕ) → 0 < picture_bytes cfg →
    k * picture_bytes cfg ≤ length bytes → k ≤ length (pictures_in cfg bytes)
pictures_there cfg bytes k some there =
    let number : length (pictures_in cfg bytes) ≡ length bytes / picture_bytes cfg =
    length-tabulate _ _ in
    let few : k ≤ length bytes / picture_bytes cfg =
    (le-div_iff_mul-le {k = picture_bytes cfg} {x = k} {y = length bytes} some).1 there in
    omega (arith, number, few)

pub rest_after : (cfg : Settings) (bytes : List ℕ) (k r : ℕ) →
    length bytes ≡ k * picture_bytes cfg + r → r < picture_bytes cfg →
    rest_in cfg bytes ≡ drop (k * picture_bytes cfg) bytes
rest_after cfg bytes k r e few =
    ap (λ (m : ℕ). drop (m * picture_bytes cfg) bytes)
    (quotient (length bytes) k (picture_bytes cfg) r e few)

-- the bytes by which what is left fell
pub read_front : (bytes : List ℕ) (n : ℕ) → n ≤ length bytes →
    take (length bytes - length (drop n bytes)) bytes ≡ take n bytes
read_front bytes n h =
    let e : length bytes - length (drop n bytes) ≡ n = omega (arith, length-drop n bytes) in
    ap (λ (k : ℕ). take k bytes) e

-- k pictures and a part of one were taken
pub number_read : (cfg : Settings) (bytes left : List ℕ) (now : Option (List ℕ)) (k r : ℕ) →
    Took (k * picture_bytes cfg + r) bytes now → r < picture_bytes cfg → now ≡ Some left →
    length (pictures_read cfg bytes left) ≡ k
number_read cfg bytes left now k r took few told =
    let at : ℕ = k * picture_bytes cfg + r in
    ap (λ (x : List ℕ). length (pictures_in cfg (take (length bytes - length x) bytes)))
    (one_told now left (drop at bytes) told took.left) ∙
    ap (λ (x : List ℕ). length (pictures_in cfg x)) (read_front bytes at took.there) ∙
    picture_number cfg (take at bytes) k r (length-take-le at bytes took.there) few

-- ---- groups

-- behind whole groups, fewer pictures than a group has
pub whole_is : (cfg : Settings) (groups count : ℕ) → count < cfg.group →
    whole_groups cfg (groups * cfg.group + count) ≡ groups * cfg.group
whole_is cfg groups count few =
    ap (λ (m : ℕ). m * cfg.group) (div-mul-add groups cfg.group count few)

pub whole_same : (cfg : Settings) (groups : ℕ) → 0 < cfg.group →
    whole_groups cfg (groups * cfg.group) ≡ groups * cfg.group
whole_same cfg groups some =
    let none : groups * cfg.group + 0 ≡ groups * cfg.group = omega arith in
    ap (λ (m : ℕ). whole_groups cfg m) (sym none) ∙ whole_is cfg groups 0 some

pub groups_none : (cfg : Settings) (groups : ℕ) → 0 < cfg.group →
    group_count cfg (groups * cfg.group) ≡ groups
groups_none cfg groups some = div-mul-add groups cfg.group (cfg.group - 1) (omega (arith, some))

pub groups_one : (cfg : Settings) (groups count : ℕ) → 0 < count → count ≤ cfg.group →
    group_count cfg (groups * cfg.group + count) ≡ groups + 1
groups_one cfg groups count some few =
    let same : groups * cfg.group + count + (cfg.group - 1) ≡
    (groups + 1) * cfg.group + (count - 1) =
    omega (arith, next_place groups cfg.group, some, few) in
    ap (λ (m : ℕ). m / cfg.group) same ∙
    div-mul-add (groups + 1) cfg.group (count - 1) (omega (arith, some, few))
