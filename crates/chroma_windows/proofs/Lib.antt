mod PairRows
mod Pairs
