-- The row of a word that matches an operation's row is that row, and each row found is its operation's.
use Rattle.std.proofs.Common.{◌≡◌, ℕ, zero, suc, ◌<◌, List, [], ◌∷◌, length, get_or, map, true, refl, sym, ap, ◌∙◌, arith, AllPairs, Some, nat_lt, ⊎_elim}
use Rattle.std.specs.Prelude.{find}
use Rattle.std.proofs.lemmas.Bool.{false_from_ne_true, cond-true, cond-false, ltb-true, cases_Bool}
use Rattle.rv_table.specs.declared.op.Op.{Op}
use Rattle.rv_table.specs.declared.op.Op.TheVariants.{Lui, Auipc, Jal, Jalr, Lb, Lh, Lw, Ld, Lbu, Lhu, Lwu, Addi, Slti, Sltiu, Xori, Ori, Andi, Slli, Srli, Srai, Addiw, Slliw, Srliw, Sraiw, Fence, Beq, Bne, Blt, Bge, Bltu, Bgeu, Sb, Sh, Sw, Sd, Add, Sub, Sll, Slt, Sltu, Xor, Srl, Sra, Or, And, Mul, Mulh, Mulhsu, Mulhu, Div, Divu, Rem, Remu, Addw, Subw, Sllw, Srlw, Sraw, Mulw, Divw, Divuw, Remw, Remuw, LrW, LrD, ScW, AmoswapW, AmoaddW, AmoxorW, AmoandW, AmoorW, AmominW, AmomaxW, AmominuW, AmomaxuW, ScD, AmoswapD, AmoaddD, AmoxorD, AmoandD, AmoorD, AmominD, AmomaxD, AmominuD, AmomaxuD, Ecall, Ebreak}
use Rattle.rv_table.specs.declared.table.Row.{Row}
use Rattle.rv_table.specs.Rows.{row_for, the_ops, the_rows, matches, row_of, Disjoint}
use Rattle.rv_table.proofs.Apart.{AllPairs-all_apart, the_rows_apart}

-- where an operation's row stands in the table
place : Op → ℕ
place Lui = 0
place Auipc = 1
place Jal = 2
place Jalr = 3
place Lb = 4
place Lh = 5
place Lw = 6
place Ld = 7
place Lbu = 8
place Lhu = 9
place Lwu = 10
place Addi = 11
place Slti = 12
place Sltiu = 13
place Xori = 14
place Ori = 15
place Andi = 16
place Slli = 17
place Srli = 18
place Srai = 19
place Addiw = 20
place Slliw = 21
place Srliw = 22
place Sraiw = 23
place Fence = 24
place Beq = 25
place Bne = 26
place Blt = 27
place Bge = 28
place Bltu = 29
place Bgeu = 30
place Sb = 31
place Sh = 32
place Sw = 33
place Sd = 34
place Add = 35
place Sub = 36
place Sll = 37
place Slt = 38
place Sltu = 39
place Xor = 40
place Srl = 41
place Sra = 42
place Or = 43
place And = 44
place Mul = 45
place Mulh = 46
place Mulhsu = 47
place Mulhu = 48
place Div = 49
place Divu = 50
place Rem = 51
place Remu = 52
place Addw = 53
place Subw = 54
place Sllw = 55
place Srlw = 56
place Sraw = 57
place Mulw = 58
place Divw = 59
place Divuw = 60
place Remw = 61
place Remuw = 62
place LrW = 63
place LrD = 64
place ScW = 65
place AmoswapW = 66
place AmoaddW = 67
place AmoxorW = 68
place AmoandW = 69
place AmoorW = 70
place AmominW = 71
place AmomaxW = 72
place AmominuW = 73
place AmomaxuW = 74
place ScD = 75
place AmoswapD = 76
place AmoaddD = 77
place AmoxorD = 78
place AmoandD = 79
place AmoorD = 80
place AmominD = 81
place AmomaxD = 82
place AmominuD = 83
place AmomaxuD = 84
place Ecall = 85
place Ebreak = 86

place_below : (op : Op) → nat_lt (place op) 87 ≡ true
unfolding place
place_below Lui = refl
place_below _ = refl

get_or-place : (op : Op) → get_or the_rows (place op) (row_for op) ≡ row_for op
unfolding place the_rows the_ops row_for
get_or-place Lui = refl
get_or-place _ = refl

pub op-row_for : (op : Op) → (row_for op).op ≡ op
unfolding row_for
op-row_for Lui = refl
op-row_for _ = refl

length-the_rows : length the_rows ≡ 87
unfolding the_rows the_ops row_for
length-the_rows = refl

-- the first of pairwise disjoint rows that a word matches is any that it matches
find-disjoint : (word : ℕ) (rs : List Row) → AllPairs Disjoint rs → (k : ℕ) (d : Row) → k < length rs
    → matches word (get_or rs k d) ≡ true → find (matches word) rs ≡ Some (get_or rs k d)
find-disjoint word [] apart k d p m = absurd (omega arith)
find-disjoint word (r ∷ rs) apart zero d p m = cond-true _ _ _ m
find-disjoint word (r ∷ rs) apart (suc k) d p m =
    cond-false _ _ _ (false_from_ne_true _ (λ t. apart 0 (suc k) d (omega arith) p word t m))
    ∙ find-disjoint word rs (λ i j e q s. apart (suc i) (suc j) e (omega arith) (omega arith)) k d (omega arith) m

-- a word that matches an operation's row has that row
pub row_of-matches : (word : ℕ) (op : Op) → matches word (row_for op) ≡ true → row_of word ≡ Some (row_for op)
unfolding row_of
row_of-matches word op m =
    let below : place op < length the_rows = rw length-the_rows (ltb-true _ _ (place_below op)) in
    let there : matches word (get_or the_rows (place op) (row_for op)) ≡ true = ap (matches word) (get_or-place op) ∙ m in
    find-disjoint word the_rows (AllPairs-all_apart the_rows the_rows_apart) (place op) (row_for op) below there
    ∙ ap Some (get_or-place op)

find-map : (word : ℕ) (ops : List Op) (r : Row) → find (matches word) (map row_for ops) ≡ Some r
    → (matches word r ≡ true) × (r ≡ row_for r.op)
find-map word [] r e = absurd (cc e)
find-map word (op ∷ ops) r e = ⊎_elim
    (λ t. let same : row_for op ≡ r = cc (cond-true _ (Some (row_for op)) (find (matches word) (map row_for ops)) t, e) in
    (ap (matches word) (sym same) ∙ t, sym same ∙ ap row_for (sym (op-row_for op) ∙ ap (λ s. s.op) same)))
    (λ f. find-map word ops r (sym (cond-false _ _ _ f) ∙ e))
    (cases_Bool (matches word (row_for op)))

-- the row found is matched, and is its operation's
pub row_of-Some : (word : ℕ) (r : Row) → row_of word ≡ Some r → (matches word r ≡ true) × (r ≡ row_for r.op)
unfolding row_of the_rows
row_of-Some word r e = find-map word the_ops r e
