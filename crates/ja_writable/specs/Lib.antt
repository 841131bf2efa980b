pub mod InnerJudging
