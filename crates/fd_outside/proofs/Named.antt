-- What a change of the first file of a name leaves, and what it changes.
use Rattle.std.proofs.Common.{◌≡◌, ℕ, zero, suc, ◌+◌, ◌≤◌, ◌^◌, Bool, true, false, ◌||◌, ◌&&◌, if◌then◌else◌, List, [], ◌∷◌, Option, Some}
use Rattle.std.proofs.Common.{None, option_map, is_some, is_none, ◌++◌, ◌-◌, ◌<◌, length, take, drop, slice_set, get_or, nat_lt, ap, sym}
use Rattle.std.proofs.Common.{◌∙◌, subst, refl, arith, Err}
use Rattle.std.proofs.lemmas.Bool.Decides.{same_from_decides}
use Rattle.std.proofs.lemmas.Grind.{common_steps}
use Rattle.std.proofs.lemmas.List.{drop_more}
use Rattle.std.proofs.lemmas.Slice.Eq.{bytes_eq-Decides}
use Rattle.std.specs.Option.{option_map_or}
use Rattle.std.specs.Str.{bytes_eq}
use Rattle.fd_outside.specs.Causes.{HasCause, NoneFell, Rose, risen}
use Rattle.fd_outside.specs.Named.{bytes_in, faults_in, file_in, changed_in, marked, refilled, with_contents, share_count}
use Rattle.fd_outside.specs.declared.memory.MemoryFile.{MemoryFile}

bytes_eq-comm : (xs ys : List ℕ) → bytes_eq xs ys ≡ bytes_eq ys xs
bytes_eq-comm xs ys = same_from_decides (bytes_eq xs ys) (bytes_eq ys xs) (bytes_eq-Decides xs ys)
    ((λ e. sym ((bytes_eq-Decides ys xs).0 e)), (λ e. (bytes_eq-Decides ys xs).1 (sym e)))

bytes_eq-refl : (xs : List ℕ) → bytes_eq xs xs ≡ true
bytes_eq-refl xs = (bytes_eq-Decides xs xs).1 refl

-- the file's name is this one, so another name is this one where it is the file's
here_is : (own name other : List ℕ) → bytes_eq own name ≡ true → bytes_eq other name ≡ bytes_eq own other
here_is own name other e = ap (λ (xs : List ℕ). bytes_eq other xs) (sym ((bytes_eq-Decides own name).0 e)) ∙ bytes_eq-comm other own

-- the file's name is the other one
other_is : (own name other : List ℕ) → bytes_eq own other ≡ true → bytes_eq other name ≡ bytes_eq own name
other_is own name other e = ap (λ (xs : List ℕ). bytes_eq xs name) (sym ((bytes_eq-Decides own other).0 e))

pub marked_keeps : (fs : List MemoryFile) (name other : List ℕ) → bytes_in (changed_in marked fs name) other ≡ bytes_in fs other
marked_keeps [] name other = refl
marked_keeps (f ∷ fs) name other = by (bytes_eq f.name name) (bytes_eq f.name other) (marked_keeps fs name other) refl
  where
    by : (b c : Bool) → bytes_in (changed_in marked fs name) other ≡ bytes_in fs other → bytes_eq f.name other ≡ c
        → bytes_in (if b then marked f ∷ fs else f ∷ changed_in marked fs name) other ≡ option_map (λ (g : MemoryFile). g.bytes)
        (if bytes_eq f.name other then Some f else file_in fs other)
    by true true more e = rw e refl
    by true false more e = rw e refl
    by false true more e = rw e refl
    by false false more e = rw e more

pub refilled_keeps : (fs : List MemoryFile) (bytes : List ℕ) (absent : ℕ) (name other : List ℕ)
    → faults_in (changed_in (refilled bytes) fs name) absent other ≡ faults_in fs absent other
refilled_keeps [] bytes absent name other = refl
refilled_keeps (f ∷ fs) bytes absent name other = by (bytes_eq f.name name) (bytes_eq f.name other)
    (refilled_keeps fs bytes absent name other) refl
  where
    by : (b c : Bool) → faults_in (changed_in (refilled bytes) fs name) absent other ≡ faults_in fs absent other → bytes_eq f.name other ≡ c
        → faults_in (if b then refilled bytes f ∷ fs else f ∷ changed_in (refilled bytes) fs name) absent other
        ≡ faults_in (f ∷ fs) absent other
    by true true more e = rw e refl
    by true false more e = rw e refl
    by false true more e = rw e refl
    by false false more e = rw e more

pub refilled_holds : (fs : List MemoryFile) (bytes name other : List ℕ) → is_some (bytes_in fs name) ≡ true
    → bytes_in (changed_in (refilled bytes) fs name) other ≡ with_contents (bytes_in fs) name bytes other
refilled_holds [] bytes name other some = cc some
refilled_holds (f ∷ fs) bytes name other some = by (bytes_eq f.name name) refl (bytes_eq f.name other) refl
    (refilled_holds fs bytes name other)
  where
    by : (b : Bool) → bytes_eq f.name name ≡ b → (c : Bool) → bytes_eq f.name other ≡ c
        → (is_some (bytes_in fs name) ≡ true → bytes_in (changed_in (refilled bytes) fs name) other ≡ with_contents (bytes_in fs) name
        bytes other)
        → bytes_in (changed_in (refilled bytes) (f ∷ fs) name) other ≡ with_contents (bytes_in (f ∷ fs)) name bytes other
    by true e c d more = rw (here_is f.name name other e) (rw e (rw d (same c)))
      where
        same : (c : Bool) → option_map (λ (g : MemoryFile). g.bytes) (if c then Some (refilled bytes f) else file_in fs other)
            ≡ (if c then Some bytes else option_map (λ (g : MemoryFile). g.bytes) (if c then Some f else file_in fs other))
        same true = refl
        same false = refl
    by false e true d more = rw (other_is f.name name other d) (rw e (rw d refl))
    by false e false d more = rw e (rw d (more (rw e at some)))

pub pushed_holds : (fs : List MemoryFile) (f : MemoryFile) (other : List ℕ) → is_none (bytes_in fs f.name) ≡ true
    → bytes_in (fs ++ f ∷ []) other ≡ with_contents (bytes_in fs) f.name f.bytes other
pushed_holds [] f other none = rw (bytes_eq-comm f.name other) (same (bytes_eq other f.name))
  where
    same : (c : Bool) → option_map (λ (g : MemoryFile). g.bytes) (if c then Some f else None) ≡ (if c then Some f.bytes else None)
    same true = refl
    same false = refl
pushed_holds (g ∷ fs) f other none = by (bytes_eq g.name f.name) refl (bytes_eq g.name other) refl (pushed_holds fs f other)
  where
    by : (b : Bool) → bytes_eq g.name f.name ≡ b → (c : Bool) → bytes_eq g.name other ≡ c
        → (is_none (bytes_in fs f.name) ≡ true → bytes_in (fs ++ f ∷ []) other ≡ with_contents (bytes_in fs) f.name f.bytes other)
        → bytes_in (g ∷ fs ++ f ∷ []) other ≡ with_contents (bytes_in (g ∷ fs)) f.name f.bytes other
    by true e c d more = cc (rw e at none)
    by false e true d more = rw (other_is g.name f.name other d) (rw e (rw d refl))
    by false e false d more = rw d (more (rw e at none))

pub pushed_counts : (fs : List MemoryFile) (f : MemoryFile) (other : List ℕ) → faults_in (fs ++ f ∷ []) f.faults other
    ≡ faults_in fs f.faults other
pushed_counts [] f other = same (bytes_eq f.name other)
  where
    same : (c : Bool) → option_map_or (λ (g : MemoryFile). g.faults) (if c then Some f else None) f.faults ≡ f.faults
    same true = refl
    same false = refl
pushed_counts (g ∷ fs) f other = by (bytes_eq g.name other) refl (pushed_counts fs f other)
  where
    by : (c : Bool) → bytes_eq g.name other ≡ c → faults_in (fs ++ f ∷ []) f.faults other ≡ faults_in fs f.faults other
        → faults_in (g ∷ fs ++ f ∷ []) f.faults other ≡ faults_in (g ∷ fs) f.faults other
    by true d more = rw d refl
    by false d more = rw d more

-- the counts by name after one more fault of a name, over the parts of files in memory
abbrev pub counts_after : List MemoryFile → ℕ → List ℕ → List ℕ → ℕ
counts_after fs absent name other = if share_count (bytes_in fs) name other then risen (faults_in fs absent other)
    else faults_in fs absent other

pub marked_counts : (fs : List MemoryFile) (absent : ℕ) (name other : List ℕ) → is_none (bytes_in fs name) ≡ false
    → faults_in (changed_in marked fs name) absent other ≡ counts_after fs absent name other
marked_counts fs absent name other there = only fs there
    ∙ ap (λ (b : Bool). if b then risen (faults_in fs absent other) else faults_in fs absent other) (alone (bytes_eq other name))
  where
    alone : (b : Bool) → b ≡ (b || (is_none (bytes_in fs name) && is_none (bytes_in fs other)))
    alone true = refl
    alone false = rw there refl

    only : (fs : List MemoryFile) → is_none (bytes_in fs name) ≡ false
        → faults_in (changed_in marked fs name) absent other ≡ (if bytes_eq other name then risen (faults_in fs absent other)
        else faults_in fs absent other)
    only [] some = cc some
    only (f ∷ fs) some = by (bytes_eq f.name name) refl (bytes_eq f.name other) refl (only fs)
      where
        by : (b : Bool) → bytes_eq f.name name ≡ b → (c : Bool) → bytes_eq f.name other ≡ c
            → (is_none (bytes_in fs name) ≡ false → faults_in (changed_in marked fs name) absent other
            ≡ (if bytes_eq other name then risen (faults_in fs absent other) else faults_in fs absent other))
            → faults_in (changed_in marked (f ∷ fs) name) absent other
            ≡ (if bytes_eq other name then risen (faults_in (f ∷ fs) absent other) else faults_in (f ∷ fs) absent other)
        by true e true d more = rw (here_is f.name name other e) (rw e (rw d refl))
        by true e false d more = rw (here_is f.name name other e) (rw e (rw d refl))
        by false e true d more = rw (other_is f.name name other d) (rw e (rw d refl))
        by false e false d more = rw e (rw d (more (rw e at some)))

pub absent_counts : (fs : List MemoryFile) (absent : ℕ) (name other : List ℕ) → is_none (bytes_in fs name) ≡ true
    → faults_in fs (risen absent) other ≡ counts_after fs absent name other
absent_counts fs absent name other none = rw none (by (file_in fs other) refl)
  where
    by : (o : Option MemoryFile) → file_in fs other ≡ o
        → option_map_or (λ (g : MemoryFile). g.faults) o (risen absent)
        ≡ (if bytes_eq other name || is_none (option_map (λ (g : MemoryFile). g.bytes) o)
        then risen (option_map_or (λ (g : MemoryFile). g.faults) o absent) else option_map_or (λ (g : MemoryFile). g.faults) o absent)
    by None e = either (bytes_eq other name)
      where
        either : (b : Bool) → risen absent ≡ (if b || true then risen absent else absent)
        either true = refl
        either false = refl
    by (Some f) e = either (bytes_eq other name) refl
      where
        either : (b : Bool) → bytes_eq other name ≡ b → f.faults ≡ (if b || false then risen f.faults else f.faults)
        either true d =
            let there : is_none (bytes_in fs other) ≡ false =
            ap (λ (o : Option MemoryFile). is_none (option_map (λ (g : MemoryFile). g.bytes) o)) e in
            let gone : is_none (bytes_in fs other) ≡ true = ap (λ (xs : List ℕ). is_none (bytes_in fs xs))
            ((bytes_eq-Decides other name).0 d) ∙ none in
            cc (there, gone)
        either false d = refl

not_less : (n : ℕ) → n ≤ risen n
not_less n = by (nat_lt n (2 ^ 64 - 1))
  where
    by : (b : Bool) → n ≤ (if b then n + 1 else n)
    by true = omega arith
    by false = omega arith

pub none_falls : (fs : List MemoryFile) (absent : ℕ) (name other : List ℕ) → faults_in fs absent other ≤ counts_after fs absent name other
none_falls fs absent name other = by (share_count (bytes_in fs) name other)
  where
    by : (b : Bool) → faults_in fs absent other ≤ (if b then risen (faults_in fs absent other) else faults_in fs absent other)
    by true = not_less (faults_in fs absent other)
    by false = omega arith

pub own_rose : (fs : List MemoryFile) (absent : ℕ) (name : List ℕ) → counts_after fs absent name name ≡ risen (faults_in fs absent name)
own_rose fs absent name = rw (bytes_eq-refl name) refl

set_at : (xs : List MemoryFile) (i : ℕ) (y : MemoryFile) → i < length xs → slice_set xs i y ≡ take i xs ++ y ∷ drop (i + 1) xs
set_at [] i y h = absurd (omega arith)
set_at (x ∷ xs) zero y h = refl
set_at (x ∷ xs) (suc i) y h =
    let e : suc (i + 1) ≡ suc i + 1 = omega arith in
    let h' : i < length xs = omega arith in
    ap (λ (ys : List MemoryFile). x ∷ ys) (set_at xs i y h') ∙ ap (λ (k : ℕ). x ∷ take i xs ++ y ∷ drop k (x ∷ xs)) e

found : (change : MemoryFile → MemoryFile) (f : MemoryFile) (fs : List MemoryFile) (name : List ℕ) → bytes_eq f.name name ≡ true
    → changed_in change (f ∷ fs) name ≡ change f ∷ fs
found change f fs name e = rw e refl

pub changed_at : (change : MemoryFile → MemoryFile) (files all : List MemoryFile) (i : ℕ) (d : MemoryFile) (name : List ℕ)
    → i < length files → bytes_eq (get_or files i d).name name ≡ true
    → take i files ++ changed_in change (drop i files) name ≡ changed_in change all name → slice_set files i (change (get_or files i d))
    ≡ changed_in change all name
changed_at change files all i d name h e left =
    set_at files i (change (get_or files i d)) h
    ∙ ap (λ (ys : List MemoryFile). take i files ++ ys) (sym (found change (get_or files i d) (drop (i + 1) files) name e))
    ∙ ap (λ (ys : List MemoryFile). take i files ++ changed_in change ys name) (sym (drop_more files i d h))
    ∙ left

-- the same of a file that is held at its place
pub changed_held : (change : MemoryFile → MemoryFile) (files all : List MemoryFile) (i : ℕ) (f : MemoryFile) (name : List ℕ)
    → i < length files → get_or files i f ≡ f → bytes_eq f.name name ≡ true
    → take i files ++ changed_in change (drop i files) name ≡ changed_in change all name
    → slice_set files i (change f) ≡ changed_in change all name
changed_held change files all i f name h is same left =
    ap (λ (g : MemoryFile). slice_set files i (change g)) (sym is)
    ∙ changed_at change files all i f name h (ap (λ (g : MemoryFile). bytes_eq g.name name) is ∙ same) left

pub pushed_contents : (fs now : List MemoryFile) (f : MemoryFile) (name : List ℕ) → now ≡ fs ++ f ∷ [] → f.name ≡ name
    → bytes_in fs name ≡ None
    → bytes_in now ≡ with_contents (bytes_in fs) name f.bytes
pushed_contents fs now f name e own none =
    ap bytes_in e ∙ (λ i other. pushed_holds fs f other (ap is_none (ap (bytes_in fs) own ∙ none)) i)
    ∙ ap (λ (n : List ℕ). with_contents (bytes_in fs) n f.bytes) own

pub pushed_faults : (fs now : List MemoryFile) (f : MemoryFile) (absent : ℕ) → now ≡ fs ++ f ∷ [] → f.faults ≡ absent
    → faults_in now absent ≡ faults_in fs absent
pushed_faults fs now f absent e own = ap (λ (gs : List MemoryFile). faults_in gs absent) e ∙ ap (faults_in (fs ++ f ∷ [])) (sym own)
    ∙ (λ i other. pushed_counts fs f other i) ∙ ap (faults_in fs) own

pub refilled_contents : (fs now : List MemoryFile) (bytes name : List ℕ) → now ≡ changed_in (refilled bytes) fs name
    → is_none (bytes_in fs name) ≡ false
    → bytes_in now ≡ with_contents (bytes_in fs) name bytes
refilled_contents fs now bytes name e there = ap bytes_in e
    ∙ (λ i other. refilled_holds fs bytes name other (some_of (bytes_in fs name) there) i)
  where
    some_of : (o : Option (List ℕ)) → is_none o ≡ false → is_some o ≡ true
    some_of None h = cc h
    some_of (Some x) h = refl

pub refilled_faults : (fs now : List MemoryFile) (bytes : List ℕ) (absent : ℕ) (name : List ℕ) → now ≡ changed_in (refilled bytes) fs name
    → faults_in now absent ≡ faults_in fs absent
refilled_faults fs now bytes absent name e = ap (λ (gs : List MemoryFile). faults_in gs absent) e
    ∙ (λ i other. refilled_keeps fs bytes absent name other i)

pub marked_contents : (fs now : List MemoryFile) (name : List ℕ) → now ≡ changed_in marked fs name → bytes_in now ≡ bytes_in fs
marked_contents fs now name e = ap bytes_in e ∙ (λ i other. marked_keeps fs name other i)

pub marked_faults : (fs now : List MemoryFile) (absent : ℕ) (name : List ℕ) → now ≡ changed_in marked fs name → is_none (bytes_in fs name)
    ≡ false
    → faults_in now absent ≡ counts_after fs absent name
marked_faults fs now absent name e there = ap (λ (gs : List MemoryFile). faults_in gs absent) e
    ∙ (λ i other. marked_counts fs absent name other there i)

pub fell_none : (fs : List MemoryFile) (absent : ℕ) (name : List ℕ) (now : List ℕ → ℕ) → now ≡ counts_after fs absent name
    → NoneFell (faults_in fs absent) now
fell_none fs absent name now e other = subst (λ (f : List ℕ → ℕ). faults_in fs absent other ≤ f other) (sym e)
    (none_falls fs absent name other)

rises : (n : ℕ) → Rose n (risen n)
rises n = by (nat_lt n (2 ^ 64 - 1)) refl
  where
    by : (b : Bool) → nat_lt n (2 ^ 64 - 1) ≡ b → Rose n (if b then n + 1 else n)
    by true e = omega arith
    by false e = let most : 2 ^ 64 - 1 ≤ n = grind (arith, common_steps) in omega (arith, most)

pub caused : {A E : Type 0} (fs : List MemoryFile) (absent : ℕ) (name : List ℕ) (now : List ℕ → ℕ) (error : E)
    → now ≡ counts_after fs absent name
    → HasCause {T = A} (faults_in fs absent name) (now name) (Err error)
caused fs absent name now error e =
    let own : now name ≡ risen (faults_in fs absent name) = ap (λ (f : List ℕ → ℕ). f name) e ∙ own_rose fs absent name in
    record {
      later = fell_none fs absent name now e name;
      failed = subst (λ (n : ℕ). Rose (faults_in fs absent name) n) (sym own) (rises (faults_in fs absent name));
    }
