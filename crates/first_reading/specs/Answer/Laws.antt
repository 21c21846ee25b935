-- What holds of the answers of searches, and of loops over a search.
-- Assumes nothing.
use Rattle.std.specs.Prelude.{ℕ, ◌+◌, ◌<◌, ◌≤◌, Bool, ◌≡◌, refl, List, length}
use Rattle.std.proofs.Math.Bool.{true, false}
use Rattle.std.proofs.lemmas.Bool.{false≢true}
use Rattle.std.proofs.Math.Path.{ap}
use Rattle.std.proofs.Common.{sym, ◌∙◌, subst, add-one, arith}
use Rattle.std.proofs.Math.Option.{Option, none, some, map}
use Rattle.first_reading.specs.First.{is_some, first_below}
use Rattle.first_reading.specs.First.Laws.{first_below_zero, first_below_more, first_below_at}
use Rattle.first_reading.specs.Answer.{written_all, written_by, Answer, Answers, NotFoundBelow, Unchanged}

-- ---- one search

module _ {B : Type 0} {w : B → List ℕ → List ℕ} where
  pub answer_none : {o : Option B} (ws : List ℕ) → o ≡ none → Answer o w false ws ws
  unfolding is_some written_by
  answer_none ws e = record { success = ap is_some (sym e); words = ap (λ p. written_by w p ws) (sym e) }

  -- an answer that is known
  pub answer_is : {o : Option B} {ws₀ ws : List ℕ} {t u : Bool} → t ≡ u → Answer o w t ws₀ ws → Answer o w u ws₀ ws
  answer_is e h = record { success = sym e ∙ h.success; words = h.words }

  -- the same search
  pub answer_eq : {o p : Option B} {ws₀ ws : List ℕ} {t : Bool} → p ≡ o → Answer o w t ws₀ ws → Answer p w t ws₀ ws
  answer_eq {ws₀ = ws₀} {ws} {t} e h = subst (λ q. Answer q w t ws₀ ws) (sym e) h

  -- a search without success changes nothing
  pub answer_fails : {o : Option B} {ws₀ ws : List ℕ} → Answer o w false ws₀ ws → (o ≡ none) × (ws ≡ ws₀)
  unfolding is_some written_by
  answer_fails {o} {ws₀} {ws} h = go o h
    where
      go : (p : Option B) → Answer p w false ws₀ ws → (p ≡ none) × (ws ≡ ws₀)
      go none g = (refl, g.words)
      go (some y) g = absurd (false≢true g.success)

-- a search that writes nothing here
pub answer_still : {B : Type 0} {w : B → List ℕ → List ℕ} {o : Option B} {t : Bool} (ws : List ℕ) → ((y : B) → w y ws ≡ ws) → t ≡ is_some o → Answer o w t ws ws
unfolding written_by
answer_still {B} {w} {o} ws h e = record { success = e; words = sym (go o) }
  where
    go : (p : Option B) → written_by w p ws ≡ ws
    go none = refl
    go (some y) = h y

pub is_some_map : {B C : Type 0} (g : B → C) (o : Option B) → is_some (map g o) ≡ is_some o
unfolding is_some
is_some_map g none = refl
is_some_map g (some y) = refl

pub none_is : {B : Type 0} (o : Option B) → is_some o ≡ false → o ≡ none
unfolding is_some
none_is none e = refl
none_is (some y) e = absurd (false≢true (sym e))

module _ {B C : Type 0} (g : B → C) (w : B → List ℕ → List ℕ) (v : C → List ℕ → List ℕ) where
  -- one number more is written after a success
  pub answer_yes : (more : List ℕ → List ℕ) → ((y : B) (ws : List ℕ) → more (w y ws) ≡ v (g y) ws)
      → {o : Option B} {ws₀ ws : List ℕ} → Answer o w true ws₀ ws → Answer (map g o) v true ws₀ (more ws)
  unfolding is_some written_by
  answer_yes more h {o} {ws₀} {ws} a = go o a
    where
      go : (p : Option B) → Answer p w true ws₀ ws → Answer (map g p) v true ws₀ (more ws)
      go none b = absurd (false≢true (sym b.success))
      go (some y) b = record { success = refl; words = ap more b.words ∙ h y ws₀ }

  pub answer_no : {o : Option B} {ws₀ ws : List ℕ} → Answer o w false ws₀ ws → Answer (map g o) v false ws₀ ws
  unfolding is_some written_by
  answer_no {o} {ws₀} {ws} a = go o a
    where
      go : (p : Option B) → Answer p w false ws₀ ws → Answer (map g p) v false ws₀ ws
      go none b = record { success = refl; words = b.words }
      go (some y) b = absurd (false≢true b.success)

  -- nothing more is written
  pub answer_map : ((y : B) (ws : List ℕ) → w y ws ≡ v (g y) ws) → {o : Option B} {ws₀ ws : List ℕ} {t : Bool} → Answer o w t ws₀ ws
      → Answer (map g o) v t ws₀ ws
  unfolding is_some written_by
  answer_map h {o} {ws₀} {ws} {t} a = go o a
    where
      go : (p : Option B) → Answer p w t ws₀ ws → Answer (map g p) v t ws₀ ws
      go none b = record { success = b.success; words = b.words }
      go (some y) b = record { success = b.success; words = b.words ∙ h y ws₀ }

-- the same writing
pub answer_by : {B : Type 0} {w v : B → List ℕ → List ℕ} {o : Option B} {ws₀ ws : List ℕ} {t : Bool} → ((y : B) (ws : List ℕ) → w y ws ≡ v y ws) → Answer o w t ws₀ ws
    → Answer o v t ws₀ ws
unfolding written_by
answer_by {B} {w} {v} {o} {ws₀} {ws} {t} h a = record { success = a.success; words = a.words ∙ go o }
  where
    go : (p : Option B) → written_by w p ws₀ ≡ written_by v p ws₀
    go none = refl
    go (some y) = h y ws₀

-- ---- slices that are as they were

pub same_refl : (ws : List ℕ) → Unchanged ws ws
same_refl ws = record { same = refl; long = refl }

pub same_after : {ws₀ ws vs : List ℕ} → Unchanged ws₀ ws → vs ≡ ws → Unchanged ws₀ vs
same_after h e = record { same = e ∙ h.same; long = ap length e ∙ h.long }

-- an answer from words that are as they were
pub answer_from : {B : Type 0} {w : B → List ℕ → List ℕ} {o : Option B} {t : Bool} {ws₀ ws vs : List ℕ} → Unchanged ws₀ ws → Answer o w t ws vs → Answer o w t ws₀ vs
answer_from {w = w} {o} {t} {vs = vs} h a = subst (λ x. Answer o w t x vs) h.same a

-- ---- two slices

module _ {B : Type 0} {we wm : B → List ℕ → List ℕ} where
  pub answers_none : {o : Option B} (es ms : List ℕ) → o ≡ none → Answers o we wm false es es ms ms
  answers_none es ms e = record { edges = answer_none es e; moves = answer_none ms e }

  pub answers_is : {o : Option B} {es₀ es ms₀ ms : List ℕ} {t u : Bool} → t ≡ u → Answers o we wm t es₀ es ms₀ ms → Answers o we wm u es₀ es ms₀ ms
  answers_is e h = record { edges = answer_is e h.edges; moves = answer_is e h.moves }

  pub answers_eq : {o p : Option B} {es₀ es ms₀ ms : List ℕ} {t : Bool} → p ≡ o → Answers o we wm t es₀ es ms₀ ms → Answers p we wm t es₀ es ms₀ ms
  answers_eq e h = record { edges = answer_eq e h.edges; moves = answer_eq e h.moves }

  pub answers_from : {o : Option B} {t : Bool} {es₀ es fs ms₀ ms ns : List ℕ} → Unchanged es₀ es → Unchanged ms₀ ms → Answers o we wm t es fs ms ns → Answers o we wm t es₀ fs ms₀ ns
  answers_from h k a = record { edges = answer_from h a.edges; moves = answer_from k a.moves }

  -- a search without success changes nothing
  pub answers_fails : {o : Option B} {es₀ es ms₀ ms : List ℕ} → Answers o we wm false es₀ es ms₀ ms → (o ≡ none) × (es ≡ es₀) × (ms ≡ ms₀)
  answers_fails h = let e = answer_fails h.edges in (e.0, e.1, (answer_fails h.moves).1)

-- ---- a loop

module _ {B : Type 0} {n : ℕ} {f : ℕ → Option B} where
  pub passed_none : NotFoundBelow n f 0
  passed_none = record { below = omega arith; fails = first_below_zero f }

  pub passed_more : {i : ℕ} → NotFoundBelow n f i → i < n → f i ≡ none → NotFoundBelow n f (i + 1)
  passed_more {i} h l e =
      record {
        below = omega arith;
        fails = ap (λ (k : ℕ). first_below k f) (add-one i) ∙ first_below_more f i h.fails e;
      }

  pub passed_hit : {i : ℕ} → NotFoundBelow n f i → i < n → is_some (f i) ≡ true → first_below n f ≡ f i
  passed_hit {i} h l e = first_below_at f i n l h.fails e

  pub passed_all : {i : ℕ} → NotFoundBelow n f i → n ≤ i → first_below n f ≡ none
  passed_all {i} h l = let z : i ≡ n = omega (arith, h.below) in ap (λ (k : ℕ). first_below k f) (sym z) ∙ h.fails

-- the same states
pub answer_states : {l k : List ℕ} {o : Option (List ℕ)} {t : Bool} {ws₀ ws : List ℕ} → l ≡ k → Answer o (written_all k) t ws₀ ws → Answer o (written_all l) t ws₀ ws
answer_states {o = o} {t} {ws₀} {ws} e a = subst (λ qs. Answer o (written_all qs) t ws₀ ws) (sym e) a
